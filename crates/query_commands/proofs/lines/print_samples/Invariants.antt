use Rattle.std.proofs.Common.{string_bytes, take}
use Rattle.query_commands.specs.Dumps.{MakesLines, labelled}
use Rattle.query_commands.proofs.lines.print_samples.Given as goal

-- the samples so far have their lines
abbrev pub invariant-loop-sample : goal.invariant-loop-sample
invariant-loop-sample g l = MakesLines g.O.Output.printed l.floats (labelled l.labels (take l.sample-index l.samples)) l.fn.out (string_bytes l.fn.text) l.out (string_bytes l.text)
