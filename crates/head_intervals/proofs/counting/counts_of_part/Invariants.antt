use Rattle.std.proofs.Common.{◌-◌, drop, take}
use Rattle.head_intervals.specs.Parts.{AreHeadCounts}
use Rattle.head_intervals.proofs.counting.counts_of_part.Given as goal

abbrev pub invariant-loop-number : goal.invariant-loop-number
invariant-loop-number l = AreHeadCounts l.intervals (take (l.number - l.first) (drop l.first l.head.content.histories)) l.counts
