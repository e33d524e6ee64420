use Rattle.std.proofs.Common.{[], string_bytes, take}
use Rattle.query_commands.specs.Dumps.{MakesLines, dumped}
use Rattle.query_commands.proofs.lines.print_dump.Given as goal

-- the lines of the series so far
abbrev pub invariant-loop-slot : goal.invariant-loop-slot
invariant-loop-slot g l = MakesLines g.O.Output.printed l.floats (dumped l.selection l.head.content (take l.slot-index l.slots)) l.fn.out [] l.out (string_bytes l.text)
