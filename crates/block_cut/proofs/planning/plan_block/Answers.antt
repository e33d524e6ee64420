use Rattle.std.proofs.Common.{◌≡◌, ◌≤◌, ℕ, List, All, arith, length, map, sym, ap, subst, ◌∙◌}
use Rattle.std.specs.Prelude.{Err}
use Rattle.std.specs.Int.{w64}
use Rattle.std.specs.List.{sum_by}
use Rattle.std.specs.Io.Iter.{u64_saturate}
use Rattle.std.proofs.lemmas.Int.{to_z-of_z}
use Rattle.std.proofs.lemmas.List.{length-map}
use Rattle.std.proofs.lemmas.Result.{err_from_is_err_and}
use Rattle.hw_bytes.specs.declared.write_fault.WriteFault.TheVariants.{TooLarge}
use Rattle.index_text.specs.Index.{index_text, series_ids}
use Rattle.index_text.specs.Rows.{AreRows, FitsIndex}
use Rattle.block_files.specs.declared.places.ChunkSpan.{ChunkSpan}
use Rattle.block_files.specs.Files.{all_texts, longest_chunk}
use Rattle.block_files.specs.Meta.{meta_text}
use Rattle.block_files.specs.Places.{file_at}
use Rattle.block_files.specs.Tombstones.{tombstones_text}
use Rattle.block_read.specs.declared.rows.BlockRow.{BlockRow}
use Rattle.block_read.specs.Blocks.{block_text, chunks_of_rows, index_rows, samples_of_rows, tombstones_of}
use Rattle.hour_rows.specs.declared.outlines.RowOutline.{RowOutline}
use Rattle.block_cut.specs.Cutting.{planned, sample_count}
use Rattle.block_cut.proofs.Short.{spans-short}
use Rattle.block_cut.proofs.Written.{counts_are, index_rows-AreRows, index_rows_are, metas_from, same_meta}
use Rattle.block_cut.proofs.planning.plan_block.Goals as goal

pub place_spans-requires : goal.place_spans-requires
place_spans-requires c =
    let rows = c.requires.rows in
    let spans = c.deref.ensures.value ∙ c.in_ok-series.ensures.chunks ∙ rows.parts.spans_are in
    record { short = subst (All (All (λ (span : ChunkSpan). span.len ≤ longest_chunk))) (sym spans) (spans-short c.args.encoding c.short_chunk.ensures rows.those) }

pub returns-in_err-placed-clause-large : goal.returns-in_err-placed-clause-large
returns-in_err-placed-clause-large c = λ those parts e fits.
    let p = err_from_is_err_and c.from_residual-in_err-placed.result c.from_residual-in_err-placed.ensures.1 in
    let big : c.place_spans.result ≡ Err TooLarge = cc (p.1, p.2, c.in_err-placed.was) in
    let spans = c.deref.ensures.value ∙ c.in_ok-series.ensures.chunks ∙ parts.spans_are in
    c.place_spans.ensures.large (chunks_of_rows c.args.encoding (samples_of_rows those)) (sym spans) big

pub write_rows-requires : goal.write_rows-requires
write_rows-requires c =
    let rows = c.requires.rows in
    let spans = c.in_ok-series.ensures.chunks ∙ rows.parts.spans_are in
    let labels = c.in_ok-series.ensures.labels ∙ rows.parts.labels_are in
    let refs = c.in_ok-placed.ensures.references (chunks_of_rows c.args.encoding (samples_of_rows rows.those)) (sym (c.deref.ensures.value ∙ spans)) in
    let metas = metas_from c.args.encoding rows.those _ _ _ spans refs c.in_ok-metas.ensures.metas in
    let index = index_rows_are c.args.encoding rows.those _ _ labels metas in
    subst AreRows (sym index) (index_rows-AreRows c.args.encoding c.args.hour rows.those _ rows.of_hour.some rows.of_hour.each rows.of_hour.ascending metas c.in_ok-metas.ensures.fit)

pub returns-in_err-index-clause-large : goal.returns-in_err-index-clause-large
returns-in_err-index-clause-large c = λ those parts e fits.
    let p = err_from_is_err_and c.from_residual-in_err-index.result c.from_residual-in_err-index.ensures.1 in
    let big : c.write_rows.result ≡ Err TooLarge = cc (p.1, p.2, c.in_err-index.was) in
    let spans = c.in_ok-series.ensures.chunks ∙ parts.spans_are in
    let labels = c.in_ok-series.ensures.labels ∙ parts.labels_are in
    let refs = c.in_ok-placed.ensures.references (chunks_of_rows c.args.encoding (samples_of_rows those)) (sym (c.deref.ensures.value ∙ spans)) in
    let metas = metas_from c.args.encoding those _ _ _ spans refs c.in_ok-metas.ensures.metas in
    let index = index_rows_are c.args.encoding those _ _ labels metas in
    absurd (c.write_rows.ensures.large big (subst FitsIndex (sym index) fits))

pub returns-clause-fits : goal.returns-clause-fits
returns-clause-fits c = λ those parts.
    let spans = c.in_ok-series.ensures.chunks ∙ parts.spans_are in
    let labels = c.in_ok-series.ensures.labels ∙ parts.labels_are in
    let refs = c.in_ok-placed.ensures.references (chunks_of_rows c.args.encoding (samples_of_rows those)) (sym (c.deref.ensures.value ∙ spans)) in
    let metas = metas_from c.args.encoding those _ _ _ spans refs c.in_ok-metas.ensures.metas in
    let index = index_rows_are c.args.encoding those _ _ labels metas in
    subst FitsIndex index c.in_ok-index.ensures.fits

pub returns-clause-files : goal.returns-clause-files
returns-clause-files c = λ those parts.
    let spans = c.deref.ensures.value ∙ c.in_ok-series.ensures.chunks ∙ parts.spans_are in
    ap (map (file_at c.args.encoding (all_texts (chunks_of_rows c.args.encoding (samples_of_rows those))))) c.from_vec-3.ensures ∙ c.in_ok-placed.ensures.files (chunks_of_rows c.args.encoding (samples_of_rows those)) (sym spans)

pub returns-clause-index : goal.returns-clause-index
unfolding block_text
returns-clause-index c = λ those parts.
    let spans = c.in_ok-series.ensures.chunks ∙ parts.spans_are in
    let labels = c.in_ok-series.ensures.labels ∙ parts.labels_are in
    let refs = c.in_ok-placed.ensures.references (chunks_of_rows c.args.encoding (samples_of_rows those)) (sym (c.deref.ensures.value ∙ spans)) in
    let metas = metas_from c.args.encoding those _ _ _ spans refs c.in_ok-metas.ensures.metas in
    let index = index_rows_are c.args.encoding those _ _ labels metas in
    c.in_ok-index.ensures.index ∙ ap index_text index

pub returns-clause-tombstones : goal.returns-clause-tombstones
unfolding block_text
returns-clause-tombstones c = λ those parts.
    let spans = c.in_ok-series.ensures.chunks ∙ parts.spans_are in
    let labels = c.in_ok-series.ensures.labels ∙ parts.labels_are in
    let hidden = c.in_ok-series.ensures.hidden ∙ parts.hidden_are in
    let refs = c.in_ok-placed.ensures.references (chunks_of_rows c.args.encoding (samples_of_rows those)) (sym (c.deref.ensures.value ∙ spans)) in
    let metas = metas_from c.args.encoding those _ _ _ spans refs c.in_ok-metas.ensures.metas in
    let index = index_rows_are c.args.encoding those _ _ labels metas in
    c.in_ok-index.ensures.tombstones ∙ ap tombstones_text (ap (λ (ids : List ℕ). tombstones_of ids c.deref-4.result.now) (ap series_ids index)
    ∙ ap (tombstones_of (series_ids (index_rows c.args.encoding those))) (c.deref-4.ensures.value ∙ hidden))

pub returns-clause-meta : goal.returns-clause-meta
unfolding block_text
returns-clause-meta c = λ those parts.
    let spans = c.in_ok-series.ensures.chunks ∙ parts.spans_are in
    let labels = c.in_ok-series.ensures.labels ∙ parts.labels_are in
    let refs = c.in_ok-placed.ensures.references (chunks_of_rows c.args.encoding (samples_of_rows those)) (sym (c.deref.ensures.value ∙ spans)) in
    let metas = metas_from c.args.encoding those _ _ _ spans refs c.in_ok-metas.ensures.metas in
    let index = index_rows_are c.args.encoding those _ _ labels metas in
    let first = to_z-of_z w64 c.first_of.result (record { sfits = c.first_of.type_inv }) ∙ c.first_of.ensures in
    let end = to_z-of_z w64 c.end_of.result (record { sfits = c.end_of.type_inv }) ∙ c.end_of.ensures in
    let counts = counts_are c.args.encoding those c.in_ok-series.field-0.chunks.items c.count_samples.result c.count_chunks.result (subst FitsIndex index c.in_ok-index.ensures.fits) c.few_chunks.ensures spans
    (c.count_samples.ensures ∙ ap (λ (rows : List (List ChunkSpan)). u64_saturate (sample_count rows)) c.deref-2.ensures.value) (c.count_chunks.ensures ∙ ap (λ (rows : List (List ChunkSpan)). u64_saturate (sum_by length rows)) c.deref-3.ensures.value) in
    let series : c.len.result ≡ length those = omega (
      arith,
      c.len.ensures,
      ap length c.in_ok-series.ensures.series,
      length-map c.args.rows.items planned,
      length-map c.args.rows.items (λ (o : RowOutline). o.labels),
      ap length parts.labels_are,
      length-map those (λ (b : BlockRow). b.labels),
    ) in
    c.from_vec.ensures ∙ c.in_ok-write_meta.ensures ∙ ap meta_text (same_meta c.args.ulid.now _ _ _ _ _ _ _ _ _ _ first end counts.0 series counts.1)
