use Rattle.std.proofs.Common.{◌≡◌, length, take}
use Rattle.std.specs.Prelude.{sum_by}
use Rattle.head_ranks.proofs.counting.totals.Given as goal

abbrev pub invariant-loop-number : goal.invariant-loop-number
invariant-loop-number l = l.samples ≡ sum_by (λ h. length h.samples) (take l.number l.head.content.histories)
