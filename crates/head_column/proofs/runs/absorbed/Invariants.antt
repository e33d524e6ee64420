use Rattle.std.proofs.Common.{◌≡◌, ◌-◌, ◌≤◌, length, drop}
use Rattle.head_column.specs.Merging.{absorb}
use Rattle.head_column.proofs.runs.absorbed.Given as goal

-- what is left absorbs what all would
abbrev pub invariant-loop-last : goal.invariant-loop-last
invariant-loop-last l = record {
  from : l.first ≤ l.last;
  within : l.last ≤ length l.runs;
  rest : absorb (drop l.first l.runs) l.fn.run ≡ absorb (drop l.last l.runs) l.whole;
}

abbrev pub decreases-loop-last : goal.decreases-loop-last
decreases-loop-last l = length l.runs - l.last
