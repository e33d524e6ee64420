use Rattle.std.proofs.Common.{◌≡◌, ◌+◌, length, take}
use Rattle.head_column.proofs.Chunked.{counts}
use Rattle.head_column.proofs.stored.SampleChunks.len.Given as goal

abbrev pub invariant-loop-chunk : goal.invariant-loop-chunk
invariant-loop-chunk l = l.count ≡ length l.self-inside.writer.samples + counts (take l.chunk-index l.chunk-items)
