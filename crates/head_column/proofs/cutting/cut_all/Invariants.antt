use Rattle.std.proofs.Common.{length}
use Rattle.head_column.proofs.Windows.{AreCut}
use Rattle.head_column.proofs.cutting.cut_all.Given as goal

abbrev pub invariant-loop-rest : goal.invariant-loop-rest
invariant-loop-rest l = AreCut l.fn.form l.chunks.items l.rest l.fn.samples

abbrev pub decreases-loop-rest : goal.decreases-loop-rest
decreases-loop-rest l = length l.rest
