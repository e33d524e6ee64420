use Rattle.std.proofs.Common.{ℕ, ◌<◌, ◌≤◌, length}
use Rattle.std.specs.Prelude.{IfSome}
use Rattle.head_series.specs.Table.{slot_at}
use Rattle.head_resolver.specs.Changes.{AreBelow}
use Rattle.head_resolver.proofs.Linking.{IsWalk}
use Rattle.head_resolver.proofs.changes.Changes.slot_before.Given as goal

abbrev pub invariant-loop-next : goal.invariant-loop-next
invariant-loop-next l =
    IsWalk l.self (slot_at l.table) l.place l.reference l.next l.found
    × ((n : ℕ) → length l.table.series ≤ n → AreBelow n l.self → IfSome l.found (λ slot. slot < n))

abbrev pub decreases-loop-next : goal.decreases-loop-next
decreases-loop-next l = l.next
