use Rattle.std.proofs.Common.{string_bytes}
use Rattle.wal_record.specs.declared.record.WalRecord.TheVariants.{Samples}
use Rattle.log_commands.proofs.MadeLines.{line_made}
use Rattle.log_commands.proofs.record_lines.RecordLinesRecordTaker.take_samples.Goals as goal

pub returns : goal.returns
returns g c = λ first before so_far.
    line_made g.O.Output.printed first c.args.self.now (record { out = c.print_long.new.out; text = c.print_long.new.text }) before (record { place = c.args.place; content = Samples c.args.samples.now }) (string_bytes c.push_line.new.text) so_far c.in_ok-push_line.ensures c.in_ok-print_long.ensures
