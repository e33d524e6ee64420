use Rattle.std.proofs.Common.{◌≡◌, ◌+◌, All, map, vec_len}
use Rattle.head_live.specs.Rows.{row_again}
use Rattle.write_commands.specs.RowParts.{AreSpelled, sets_of}
use Rattle.write_commands.proofs.LineLaws.{AreReadUpTo, HasPlace, lines_left, next_number}
use Rattle.write_commands.proofs.rows.read_rows.Given as goal

-- the rows so far are read, each has its place, and a line's number is one more than their count
abbrev pub invariant-loop-line : goal.invariant-loop-line
invariant-loop-line l = record {
  read : AreReadUpTo l.floats (lines_left l.initial.line-iterator) (map (row_again (sets_of l.first.items)) l.rows.items) (lines_left l.line-iterator);
  spelled : AreSpelled l.texts.keys l.first.items;
  within : All (HasPlace l.first.items) l.rows.items;
  number : next_number l.line-iterator ≡ vec_len l.rows + 1;
}
