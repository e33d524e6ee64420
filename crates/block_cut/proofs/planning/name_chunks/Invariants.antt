use Rattle.std.proofs.Common.{◌≡◌, ◌++◌, All, map}
use Rattle.std.specs.List.{zip}
use Rattle.std.specs.Iterator.Adapters.{zip_first, zip_second}
use Rattle.std.specs.Slice.Iter.{iter_rest}
use Rattle.index_text.specs.Rows.{FitsChunk}
use Rattle.block_cut.specs.Cutting.{meta_from}
use Rattle.block_cut.proofs.planning.name_chunks.Given as goal

abbrev pub invariant-loop-chunk : goal.invariant-loop-chunk
invariant-loop-chunk l = record {
  whole : l.metas.items ++ map meta_from (zip (iter_rest (zip_first l.chunk-iterator)) (iter_rest (zip_second l.chunk-iterator))) ≡ map meta_from (zip l.chunks l.references);
  fit : All FitsChunk l.metas.items;
}
