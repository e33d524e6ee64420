use Rattle.head_column.proofs.Chunked.{AreRead}
use Rattle.head_column.proofs.stored.SampleChunks.to_vec.Given as goal

abbrev pub invariant-loop-chunk : goal.invariant-loop-chunk
invariant-loop-chunk l = AreRead (λ xs. xs) l.chunk-index l.chunk-items l.self-inside.writer.front l.rest l.samples.items
