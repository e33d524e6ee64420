use Rattle.xor_chunk.proofs.Readers.{AreCounted}
use Rattle.xor_chunk.proofs.chunk_reader.count_before.Given as goal

abbrev pub invariant-loop-sample : goal.invariant-loop-sample
invariant-loop-sample l = AreCounted l.initial.reader.rest l.reader.rest l.time l.count l.reader.left l.initial.reader.left

abbrev pub decreases-loop-sample : goal.decreases-loop-sample
decreases-loop-sample l = l.reader.left
