use Rattle.std.proofs.Common.{refl, sym}
use Rattle.head_tests.proofs.Below.{below}
use Rattle.head_tests.proofs.postings.add.Goals as goal

pub add-requires : goal.add-requires
add-requires c =
    let all = below c.args.entry.now.0 c.all.result.now (c.if-not-are_below.ensures.0 refl) in
    rw c.new.ensures (rw (sym c.all.ensures.slots) all)
