use Rattle.std.proofs.Common.{◌-◌, length}
use Rattle.head_column.proofs.ReadLaws.{ReadSoFar}
use Rattle.head_column.proofs.decoding.front_samples.Given as goal

abbrev pub invariant-loop-rest : goal.invariant-loop-rest
invariant-loop-rest l = ReadSoFar l.count l.bytes l.samples.items l.before l.rest

abbrev pub decreases-loop-rest : goal.decreases-loop-rest
decreases-loop-rest l = l.count - length l.samples.items
