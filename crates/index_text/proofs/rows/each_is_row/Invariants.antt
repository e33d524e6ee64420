use Rattle.std.proofs.Common.{take}
use Rattle.std.specs.List.{AllByRecursion}
use Rattle.index_text.specs.Rows.{IsRow}
use Rattle.index_text.proofs.rows.each_is_row.Given as goal

abbrev pub invariant-loop-row : goal.invariant-loop-row
invariant-loop-row l = AllByRecursion IsRow (take l.row-index l.rows)
