use Rattle.std.proofs.Common.{take}
use Rattle.block_cut.proofs.Found.{AreFound}
use Rattle.block_cut.proofs.ranges.add_hours.Given as goal

abbrev pub invariant-loop-sample : goal.invariant-loop-sample
invariant-loop-sample l = AreFound l.initial.hours.items l.hours.items (take l.sample-index l.samples)
