use Rattle.std.proofs.Common.{◌≡◌, [], All, length}
use Rattle.head_deal.proofs.batches.empty.Given as goal

abbrev pub invariant-loop-batch : goal.invariant-loop-batch
invariant-loop-batch g l = All (λ x. x.items ≡ []) l.spare.items

abbrev pub decreases-loop-batch : goal.decreases-loop-batch
decreases-loop-batch g l = length l.batches.items
