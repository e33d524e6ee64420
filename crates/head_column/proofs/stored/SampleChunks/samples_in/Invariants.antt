use Rattle.std.specs.Prelude.{filter}
use Rattle.head_column.specs.Hours.{is_in_hour}
use Rattle.head_column.proofs.Chunked.{AreRead}
use Rattle.head_column.proofs.stored.SampleChunks.samples_in.Given as goal

abbrev pub invariant-loop-chunk : goal.invariant-loop-chunk
invariant-loop-chunk l = AreRead (λ xs. filter (λ s. is_in_hour l.hour s.time) xs) l.chunk-index l.chunk-items l.self-inside.writer.front l.rest l.samples.items
