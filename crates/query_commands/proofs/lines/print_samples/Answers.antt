use Rattle.std.proofs.Common.{string_bytes}
use Rattle.query_commands.proofs.Growing.{makes_none, samples_more}
use Rattle.query_commands.proofs.lines.print_samples.Goals as goal

pub loop-sample-init : goal.loop-sample-init
loop-sample-init g c = makes_none g.O.Output.printed c.args.floats c.args.out.now (string_bytes c.args.text.now)

-- the line of the next sample is made
pub loop-sample-preserved : goal.loop-sample-preserved
loop-sample-preserved g c =
    samples_more g.O.Output.printed c.args.floats c.args.labels.now c.args.samples.now c.loop-sample.sample-index _ c.args.out.now c.loop-sample.out c.print_line.new.out (string_bytes c.args.text.now) (string_bytes c.loop-sample.text) (string_bytes c.print_line.new.text)
    c.loop-sample-test.true c.loop-sample.invariant c.in_ok-print_line.ensures
