use Rattle.std.proofs.Common.{◌≡◌, ◌+◌, ◌-◌, ◌++◌, ℕ, None, length, replicate}
use Rattle.head_live.proofs.known.make_place.Given as goal

abbrev pub invariant-loop-list : goal.invariant-loop-list
invariant-loop-list g l = (count : ℕ) × (l.list.items ≡ l.fn.list.items ++ replicate count None)

abbrev pub decreases-loop-list : goal.decreases-loop-list
decreases-loop-list g l = l.place + 1 - length l.list.items
