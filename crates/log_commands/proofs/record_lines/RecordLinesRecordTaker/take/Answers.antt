use Rattle.std.proofs.Common.{◌≡◌, ◌∙◌, ◌++◌, ap, string_bytes, List, ℕ}
use Rattle.log_commands.specs.Printed.{kind_of_record, line_of}
use Rattle.log_commands.proofs.MadeLines.{line_made}
use Rattle.log_commands.proofs.record_lines.RecordLinesRecordTaker.take.Goals as goal

pub returns : goal.returns
returns g c = λ first before so_far.
    let place = c.args.record.now.place in
    let old = string_bytes c.args.self.now.text in
    line_made g.O.Output.printed first c.args.self.now (record { out = c.print_long.new.out; text = c.print_long.new.text }) before c.args.record.now (string_bytes c.push_line.new.text) so_far
    (c.in_ok-push_line.ensures ∙ ap (λ (kind : List ℕ). old ++ line_of place kind c.kind_of_record-count.result.1) c.kind_of_record-count.ensures.kind ∙ ap (λ (count : ℕ). old ++ line_of place (kind_of_record c.args.record.now.content).0 count) c.kind_of_record-count.ensures.count) c.in_ok-print_long.ensures
