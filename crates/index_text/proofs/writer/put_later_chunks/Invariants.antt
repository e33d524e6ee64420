use Rattle.std.proofs.Common.{◌≡◌, ◌++◌, drop}
use Rattle.index_text.specs.Index.{later_chunks}
use Rattle.index_text.proofs.writer.put_later_chunks.Given as goal

abbrev pub invariant-loop-chunk : goal.invariant-loop-chunk
invariant-loop-chunk l = l.out.items ++ later_chunks l.last (drop l.chunk-index l.chunks) ≡ l.fn.out.items ++ later_chunks l.fn.first l.chunks
