use Rattle.std.proofs.Common.{take}
use Rattle.std.specs.Prelude.{◌≤ℤ◌}
use Rattle.std.specs.List.{AllByRecursion}
use Rattle.index_text.specs.declared.row.ChunkMeta.{ChunkMeta}
use Rattle.index_text.specs.Rows.{FitsChunk}
use Rattle.index_text.proofs.rows.are_forward.Given as goal

abbrev pub invariant-loop-chunk : goal.invariant-loop-chunk
invariant-loop-chunk l = record {
  fits : AllByRecursion FitsChunk (take l.chunk-index l.chunks);
  forward : AllByRecursion (λ (c : ChunkMeta). c.min_time ≤ℤ c.max_time) (take l.chunk-index l.chunks);
}
