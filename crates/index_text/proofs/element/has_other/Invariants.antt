use Rattle.std.proofs.Common.{◌≡◌, ◌==◌, not, drop}
use Rattle.std.specs.List.{list_any}
use Rattle.index_text.proofs.element.has_other.Given as goal

abbrev pub invariant-loop-b : goal.invariant-loop-b
invariant-loop-b l = list_any (λ b. not (b == 0)) (drop l.b-index l.bytes) ≡ list_any (λ b. not (b == 0)) l.bytes
