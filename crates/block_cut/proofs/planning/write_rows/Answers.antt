use Rattle.std.proofs.Common.{◌≡◌, ℕ, List, ap, sym, subst, ◌∙◌}
use Rattle.std.specs.Prelude.{Err}
use Rattle.std.proofs.lemmas.Result.{err_from_is_err_and}
use Rattle.hw_bytes.specs.declared.write_fault.WriteFault.TheVariants.{TooLarge}
use Rattle.index_text.specs.Index.{index_text, series_ids}
use Rattle.index_text.specs.Rows.{AreRows, FitsIndex}
use Rattle.block_files.specs.Tombstones.{tombstones_text}
use Rattle.block_read.specs.Blocks.{tombstones_of}
use Rattle.block_cut.specs.Cutting.{index_rows_of}
use Rattle.block_cut.proofs.planning.write_rows.Goals as goal

pub write_numbered_index-requires : goal.write_numbered_index-requires
write_numbered_index-requires c = subst AreRows (sym (c.deref.ensures.value ∙ c.in_ok-index_rows.ensures)) c.requires

pub returns-in_err-text-clause-large : goal.returns-in_err-text-clause-large
returns-in_err-text-clause-large c = λ e fits.
    let p = err_from_is_err_and c.from_residual-in_err-text.result c.from_residual-in_err-text.ensures.1 in
    let big : c.write_numbered_index.result ≡ Err TooLarge = cc (p.1, p.2, c.in_err-text.was) in
    c.write_numbered_index.ensures.large big (subst FitsIndex (sym (c.deref.ensures.value ∙ c.in_ok-index_rows.ensures)) fits)

pub returns-clause-index : goal.returns-clause-index
returns-clause-index c = c.in_ok-text.ensures.text ∙ ap index_text (c.deref.ensures.value ∙ c.in_ok-index_rows.ensures)

pub returns-clause-fits : goal.returns-clause-fits
returns-clause-fits c = subst FitsIndex (c.deref.ensures.value ∙ c.in_ok-index_rows.ensures) c.in_ok-text.ensures.fits

pub returns-clause-tombstones : goal.returns-clause-tombstones
returns-clause-tombstones c =
    let ids : c.as_slice.result.now ≡ series_ids (index_rows_of c.args.labels.items c.args.metas.items) = c.as_slice.ensures ∙ c.in_ok-text.ensures.ids ∙ ap series_ids (c.deref.ensures.value ∙ c.in_ok-index_rows.ensures) in
    c.from_vec.ensures ∙ c.in_ok-write_tombstones.ensures ∙ ap tombstones_text (c.deref-2.ensures.value ∙ c.in_ok-tombstones.ensures ∙ ap (λ (is : List ℕ). tombstones_of is c.args.hidden.now) ids)
