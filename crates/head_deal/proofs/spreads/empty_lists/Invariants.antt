use Rattle.std.proofs.Common.{◌≡◌, [], All, length}
use Rattle.head_deal.proofs.spreads.empty_lists.Given as goal

abbrev pub invariant-loop-place : goal.invariant-loop-place
invariant-loop-place g l = (length l.lists.items ≡ l._place) × All (λ x. x.items ≡ []) l.lists.items × All (λ x. x.items ≡ []) l.spare.items
