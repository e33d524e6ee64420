use Rattle.head_column.proofs.Copied.{AreCopied}
use Rattle.head_column.proofs.stored.SampleChunks.copy_chunks.Given as goal

abbrev pub invariant-loop-chunk : goal.invariant-loop-chunk
invariant-loop-chunk l = AreCopied l.hour l.chunk-index l.chunk-items l.self-inside.writer.front l.rest l.chunks.items
