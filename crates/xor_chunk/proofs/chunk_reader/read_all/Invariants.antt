use Rattle.xor_chunk.proofs.Readers.{AreRead}
use Rattle.xor_chunk.proofs.chunk_reader.read_all.Given as goal

abbrev pub invariant-loop-sample : goal.invariant-loop-sample
invariant-loop-sample l = AreRead l.initial.reader.rest l.samples.items l.reader.rest

abbrev pub decreases-loop-sample : goal.decreases-loop-sample
decreases-loop-sample l = l.reader.left
