use Rattle.std.proofs.Common.{take}
use Rattle.head_column.specs.Samples.{Rises}
use Rattle.block_read.proofs.chunks.do_rise.Given as goal

abbrev pub invariant-loop-i : goal.invariant-loop-i
invariant-loop-i l = Rises (take l.i l.samples)
