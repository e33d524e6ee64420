use Rattle.std.proofs.Common.{◌*◌, take}
use Rattle.head_intervals.specs.Parts.{AreHeadCounts, part_length}
use Rattle.head_intervals.proofs.counting.counts_in.Given as goal

abbrev pub invariant-loop-part : goal.invariant-loop-part
invariant-loop-part g l = AreHeadCounts l.intervals (take (l.part-index * part_length) l.head.content.histories) l.counts
