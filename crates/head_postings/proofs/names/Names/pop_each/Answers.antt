use Rattle.std.proofs.Common.{◌-◌, arith}
use Rattle.head_postings.specs.Postings.{label, slots_of}
use Rattle.head_postings.proofs.GivenLemmas.{given_back}
use Rattle.head_postings.proofs.names.Names.pop_each.Goals as goal

pub loop-left-preserved : goal.loop-left-preserved
loop-left-preserved c =
    let i = c.loop-left.left - 1 in (
      omega arith,
      λ s n v before h. given_back s c.args.labels.now i c.loop-left.left (label c.pair.result.0.now c.pair.result.1.now) n v before (slots_of c.loop-left.self.slots n v) (slots_of c.pop.new.self.slots n v)
          c.pair.ensures (omega (arith, c.loop-left-test.true)) (c.loop-left.invariant.1 s n v before h) (c.pop.ensures n v),
    )
