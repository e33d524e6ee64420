use Rattle.std.proofs.Common.{refl, sym}
use Rattle.head_tests.proofs.Below.{below}
use Rattle.head_tests.proofs.postings.add_ready.Goals as goal

pub add_ready-requires-clause-below : goal.add_ready-requires-clause-below
add_ready-requires-clause-below c =
    let all = below c.args.number c.all.result.now (c.if-not-are_below.ensures.0 refl) in
    rw c.new.ensures (rw (sym c.all.ensures.slots) all)
