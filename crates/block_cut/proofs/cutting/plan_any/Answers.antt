use Rattle.std.proofs.Common.{◌≡◌, sym, ap, ◌∙◌}
use Rattle.std.specs.Prelude.{Err}
use Rattle.std.proofs.lemmas.Result.{err_from_is_err_and}
use Rattle.block_cut.specs.declared.fault.CutFault.TheVariants as cut
use Rattle.block_cut.specs.Faults.{cut_fault}
use Rattle.hour_rows.specs.Rows.{rows_of}
use Rattle.block_cut.proofs.Outlines.{are_outlines, have_parts, plan_is, some_rows}
use Rattle.block_cut.proofs.Written.{too_large, unless}
use Rattle.block_cut.proofs.cutting.plan_any.Goals as goal

pub plan_block-requires : goal.plan_block-requires
plan_block-requires g c =
    let off = sym c.is_empty.ensures ∙ c.if-is_empty.false in
    record {
      rows = are_outlines c.args.encoding c.args.hour c.args.head.now.content c.in_ok-rows.rows (rows_of c.args.hour c.args.head.now.content) c.in_ok-rows.ensures.rows off c.in_ok-rows.ensures.each c.in_ok-rows.ensures.ascending;
      whole = unless c.is_edge.result c.if-is_edge.false c.is_edge.ensures.1;
    }

pub returns-in_err-plan_block-clause-large : goal.returns-in_err-plan_block-clause-large
returns-in_err-plan_block-clause-large g c = λ e fits.
    let those = rows_of c.args.hour c.args.head.now.content in
    let p = err_from_is_err_and c.from_residual-in_err-plan_block.result c.from_residual-in_err-plan_block.ensures.1 in
    let fault : cut_fault c.in_err-plan_block.field-0.0 ≡ cut.TooLarge = cc (p.1, p.2, e) in
    let big = c.in_err-plan_block.was ∙ ap Err (too_large c.in_err-plan_block.field-0.0 fault) in
    c.plan_block.ensures.large those (have_parts c.args.encoding c.args.hour c.args.head.now.content c.in_ok-rows.rows.items those c.in_ok-rows.ensures.rows) big fits

pub returns-clause-plan : goal.returns-clause-plan
returns-clause-plan g c =
    let those = rows_of c.args.hour c.args.head.now.content in
    let off = sym c.is_empty.ensures ∙ c.if-is_empty.false in
    let outlined = c.in_ok-rows.ensures.rows in
    let parts = have_parts c.args.encoding c.args.hour c.args.head.now.content c.in_ok-rows.rows.items those outlined in
    let made = c.in_ok-plan_block.ensures in
    plan_is c.args.encoding c.args.hour c.args.head.now.content c.args.ulid.now c.in_ok-rows.rows.items those _ c.as_bytes-digits.ensures.held (unless c.is_edge.result c.if-is_edge.false c.is_edge.ensures.1)
    (some_rows c.args.encoding c.args.hour c.args.head.now.content c.in_ok-rows.rows those outlined off) c.in_ok-rows.ensures.each c.in_ok-rows.ensures.ascending outlined (made.index those parts) (made.tombstones those parts) (made.meta those parts) made.series
    (made.files those parts) made.few (made.fits those parts)
