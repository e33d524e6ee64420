use Rattle.block_cut.proofs.Found.{AreFoundBelow}
use Rattle.block_cut.proofs.ranges.sampled_hours.Given as goal

abbrev pub invariant-loop-number : goal.invariant-loop-number
invariant-loop-number l = AreFoundBelow l.number l.hours.items l.head.content
