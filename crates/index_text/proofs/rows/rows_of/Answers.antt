use Rattle.std.proofs.Common.{rules}
use Rattle.index_text.specs.Gives.{nows}
use Rattle.index_text.proofs.StoredLaws.{row_refused}
use Rattle.index_text.proofs.rows.rows_of.Goals as goal

pub returns-in_err-row_of-clause-bad : goal.returns-in_err-row_of-clause-bad
returns-in_err-row_of-clause-bad c =
    let refused = row_refused (nows c.args.symbols.now) c.args.series.now c.loop-one.one-index c.one-item.result c.loop-one-test.true c.one-item.is in
    search (rules, refused)
