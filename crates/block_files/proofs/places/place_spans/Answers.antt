use Rattle.std.proofs.Common.{rules, ◌≡◌, Err}
use Rattle.hw_bytes.specs.declared.write_fault.WriteFault.TheVariants.{TooLarge}
use Rattle.block_files.proofs.LayoutLaws.{rows_begin, rows_step, rows_too_many}
use Rattle.block_files.proofs.places.place_spans.Goals as goal

pub loop-row-init : goal.loop-row-init
loop-row-init c = λ chunks same. rows_begin c.args.encoding c.args.limit c.new-placing.result c.new-found.result.items c.new-found.ensures.items (c.new-placing.ensures.none c.args.encoding c.args.limit)

pub loop-row-preserved : goal.loop-row-preserved
loop-row-preserved c = λ chunks same.
    rows_step c.args.encoding c.args.limit chunks c.args.rows.now c.loop-row.row-index c.as_slice.result.now c.row-item.result c.loop-row.placing c.place_row.new.self c.loop-row.found.items c.push.new.self.items c.in_ok-place_row.field-0.items c.from_vec.result
    c.loop-row-test.true c.as_slice.ensures c.row-item.is same c.in_ok-place_row.ensures.stands c.in_ok-place_row.ensures.references c.from_vec.ensures c.in_ok-push.ensures.items (c.loop-row.invariant chunks same)

pub returns-in_err-place_row-clause-large : goal.returns-in_err-place_row-clause-large
returns-in_err-place_row-clause-large c = λ chunks same was.
    let bad : c.place_row.result ≡ Err TooLarge = search rules in
    rows_too_many c.args.encoding c.args.limit chunks c.args.rows.now c.loop-row.row-index c.as_slice.result.now c.row-item.result c.loop-row.placing c.loop-row.found.items c.loop-row-test.true c.as_slice.ensures c.row-item.is same (c.place_row.ensures.large bad)
    (c.loop-row.invariant chunks same)
