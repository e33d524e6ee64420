use Rattle.std.proofs.Common.{◌≡◌, ◌+◌, drop}
use Rattle.index_text.specs.Groups.{run_length}
use Rattle.index_text.proofs.groups.run_length.Given as goal

abbrev pub invariant-loop-i : goal.invariant-loop-i
invariant-loop-i g l = l.i + run_length (λ x. g.T.Grouped.is_with x l.first) (drop l.i l.elements) ≡ run_length (λ x. g.T.Grouped.is_with x l.first) l.elements
