use Rattle.std.proofs.Common.{◌*◌, take}
use Rattle.head_intervals.specs.Intervals.{AreEnds}
use Rattle.head_intervals.specs.Parts.{part_length, times_in}
use Rattle.head_intervals.proofs.ends.ends_of.Given as goal

abbrev pub invariant-loop-part : goal.invariant-loop-part
invariant-loop-part g l = AreEnds (times_in (take (l.part-index * part_length) l.head.content.histories)) l.ends
