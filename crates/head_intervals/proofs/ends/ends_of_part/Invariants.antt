use Rattle.std.proofs.Common.{◌-◌, drop, take}
use Rattle.head_intervals.specs.Intervals.{AreEnds}
use Rattle.head_intervals.specs.Parts.{times_in}
use Rattle.head_intervals.proofs.ends.ends_of_part.Given as goal

abbrev pub invariant-loop-number : goal.invariant-loop-number
invariant-loop-number l = AreEnds (times_in (take (l.number - l.first) (drop l.first l.head.content.histories))) l.ends
