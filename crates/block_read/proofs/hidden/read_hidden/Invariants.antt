use Rattle.std.proofs.Common.{List}
use Rattle.head_column.specs.declared.items.Run.{Run}
use Rattle.block_read.specs.Reading.{HaveRuns}
use Rattle.block_read.proofs.Apart.{Dealt, Leads}
use Rattle.block_read.proofs.hidden.read_hidden.Given as goal

abbrev pub invariant-loop-id : goal.invariant-loop-id
invariant-loop-id l = Dealt l.ids l.initial.rest l.hidden.items l.rest l.id-index × ((all : List (List Run)) → HaveRuns l.bytes l.ids all → Leads l.ids all l.hidden.items l.rest l.id-index)
