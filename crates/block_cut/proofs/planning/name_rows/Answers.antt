use Rattle.std.proofs.Common.{◌≡◌, ◌∙◌, All, List, ap, inl, inr, length, map, rules}
use Rattle.std.specs.List.{zip}
use Rattle.std.specs.Iterator.Adapters.{zip_first, zip_second}
use Rattle.std.specs.Vec.Iter.{into_iter_items}
use Rattle.std.proofs.lemmas.List.{nil_from_length}
use Rattle.index_text.specs.Rows.{FitsChunk}
use Rattle.block_files.specs.declared.places.ChunkSpan.{ChunkSpan}
use Rattle.block_cut.specs.Cutting.{meta_from, named_spans}
use Rattle.block_cut.proofs.Zips.{all_more, map_zipped, zipped_more}
use Rattle.block_cut.proofs.planning.name_rows.Goals as goal

pub loop-row-preserved : goal.loop-row-preserved
loop-row-preserved c =
    let steps = c.in-Some.ensures.steps in
    let row : c.as_slice.result.now ≡ c.in-Some.row = search rules in
    let refs : c.as_slice-in-loop-row.result.now ≡ c.in-Some.row_references = search rules in
    let one = c.from_vec.ensures ∙ c.in_ok-row_metas.ensures.metas ∙ ap (λ (spans : List ChunkSpan). map meta_from (zip spans c.as_slice-in-loop-row.result.now)) row ∙ ap (λ rs. map meta_from (zip c.in-Some.row rs)) refs in
    record {
      whole = zipped_more named_spans _ _ _ _ _ _ _ _ c.in-Some.row c.in-Some.row_references steps.0.0 steps.1.0 one c.in_ok-push.ensures.items c.loop-row.invariant.whole;
      fit = all_more (All FitsChunk) _ _ _ _ c.loop-row.invariant.fit c.in_ok-row_metas.ensures.fit c.from_vec.ensures c.in_ok-push.ensures.items;
    }

pub returns-clause-metas : goal.returns-clause-metas
returns-clause-metas c = elim c.in-None.ensures.steps [
  | inl w ↦ (let none : length (into_iter_items (zip_first c.loop-row.row-iterator)) ≡ 0 = search rules in map_zipped named_spans _ _ _ _ (inl (nil_from_length _ none)) c.loop-row.invariant.whole)
  | inr w ↦ (let none : length (into_iter_items (zip_second c.loop-row.row-iterator)) ≡ 0 = search rules in map_zipped named_spans _ _ _ _ (inr (nil_from_length _ none)) c.loop-row.invariant.whole)
]
