use Rattle.std.proofs.Common.{rules, arith, ◌+◌, ◌<◌}
use Rattle.head_resolver.proofs.Entries.{records_long}
use Rattle.head_resolver.proofs.counts.count_entries.Goals as goal

pub returns-in_err-many-clause-none : goal.returns-in_err-many-clause-none
returns-in_err-many-clause-none c = λ e.
    let long = records_long c.args.records.now c.loop-log_record.log_record-index c.log_record-item.result c.loop-log_record-test.true c.log_record-item.is in
    let many = c.loop-log_record.invariant in
    let more = c.entry_count.ensures in
    let over : 18446744073709551615 < c.loop-log_record.many + c.entry_count.result = search rules in
    omega (arith, long, many, more, over)
