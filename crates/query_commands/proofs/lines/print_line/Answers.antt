use Rattle.std.proofs.Common.{string_bytes}
use Rattle.query_commands.proofs.Growing.{makes_line}
use Rattle.query_commands.proofs.lines.print_line.Goals as goal

pub returns : goal.returns
returns g c =
    makes_line g.O.Output.printed c.args.floats c.args.labels.now c.args.sample.now c.args.out.now c.print_long.new.out (string_bytes c.args.text.now) (string_bytes c.push_line.new.text) (string_bytes c.print_long.new.text)
    c.in_ok-push_line.ensures c.in_ok-print_long.ensures
