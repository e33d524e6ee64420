use Rattle.std.proofs.Common.{rules, ◌≡◌, take, arith, Err}
use Rattle.hw_bytes.specs.declared.write_fault.WriteFault.TheVariants.{TooLarge}
use Rattle.block_files.specs.declared.encoding.Encoding.TheVariants.{Raw}
use Rattle.block_files.specs.Files.{texts}
use Rattle.block_files.proofs.RowLaws.{lent_short, rows_added, rows_too_large}
use Rattle.block_files.proofs.files.write_chunks.Goals as goal

pub add_row-requires : goal.add_row-requires
add_row-requires c = record { short = lent_short c.args.rows.now c.loop-row.row-index c.as_slice.result.now c.row-item.result c.loop-row-test.true c.as_slice.ensures c.row-item.is c.requires.short }

pub loop-row-preserved : goal.loop-row-preserved
loop-row-preserved c =
    rows_added Raw c.args.limit c.loop-row.files c.add_row.new.self c.args.rows.now c.loop-row.row-index c.as_slice.result.now c.row-item.result c.loop-row.found.items c.push.new.self.items c.in_ok-add_row.field-0.items c.from_vec.result
    c.loop-row-test.true c.as_slice.ensures c.row-item.is c.loop-row.invariant c.add_row.ensures.encoding c.add_row.ensures.limit (c.in_ok-add_row.ensures.files (texts (take c.loop-row.row-index c.args.rows.now)) c.loop-row.invariant.files)
    (c.in_ok-add_row.ensures.references (texts (take c.loop-row.row-index c.args.rows.now)) c.loop-row.invariant.files) c.from_vec.ensures c.in_ok-push.ensures.items

pub returns-in_err-add_row-clause-large : goal.returns-in_err-add_row-clause-large
returns-in_err-add_row-clause-large c = λ was.
    let bad : c.add_row.result ≡ Err TooLarge = search rules in
    omega (
      arith,
      c.add_row.ensures.large (texts (take c.loop-row.row-index c.args.rows.now)) c.loop-row.invariant.files bad,
      rows_too_large Raw c.args.limit c.loop-row.files c.args.rows.now c.loop-row.row-index c.as_slice.result.now c.row-item.result c.loop-row.found.items c.loop-row-test.true c.as_slice.ensures c.row-item.is c.loop-row.invariant,
    )
