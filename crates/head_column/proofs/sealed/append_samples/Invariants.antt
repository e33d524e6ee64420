use Rattle.head_column.proofs.Chunked.{AreAppended}
use Rattle.head_column.proofs.sealed.append_samples.Given as goal

abbrev pub invariant-loop-sample : goal.invariant-loop-sample
invariant-loop-sample l = AreAppended l.initial.reader.rest l.reader.rest l.initial.samples.items l.samples.items

abbrev pub decreases-loop-sample : goal.decreases-loop-sample
decreases-loop-sample l = l.reader.left
