use Rattle.std.proofs.Common.{◌≡◌, ◌++◌, All, map}
use Rattle.std.specs.List.{zip}
use Rattle.std.specs.Iterator.Adapters.{zip_first, zip_second}
use Rattle.std.specs.Vec.Iter.{into_iter_items}
use Rattle.index_text.specs.Rows.{FitsChunk}
use Rattle.block_cut.specs.Cutting.{named_spans}
use Rattle.block_cut.proofs.planning.name_rows.Given as goal

abbrev pub invariant-loop-row : goal.invariant-loop-row
invariant-loop-row l = record {
  whole : l.metas.items ++ map named_spans (zip (into_iter_items (zip_first l.row-iterator)) (into_iter_items (zip_second l.row-iterator))) ≡ map named_spans (zip l.fn.rows.items l.fn.references.items);
  fit : All (All FitsChunk) l.metas.items;
}
