use Rattle.std.proofs.Common.{◌≡◌, ◌≤◌, ◌++◌, ℕ, List, length, take}
use Rattle.std.specs.Prelude.{map}
use Rattle.wal_record.specs.Entries.{Entry, series}
use Rattle.head_series.specs.Bindings.{IsTableOf}
use Rattle.head_resolver.specs.Owners.{bindings}
use Rattle.head_resolver.specs.Changes.{changes_of, AreBelow}
use Rattle.head_resolver.proofs.resolver.Resolver.bind_entries.Given as goal

abbrev pub invariant-loop-entry : goal.invariant-loop-entry
invariant-loop-entry l =
    ((es : List Entry) → IsTableOf (bindings es) l.fn.self.table →
    IsTableOf (bindings (es ++ map series (take l.entry-index l.entries))) l.self.table
    × (l.changes ≡ l.fn.changes ++ changes_of es (map (λ e. (l.place, e)) (take l.entry-index l.entries))))
    × (length l.fn.self.table.series ≤ length l.self.table.series)
    × ((n : ℕ) → length l.self.table.series ≤ n → AreBelow n l.fn.changes → AreBelow n l.changes)
    × (l.self.counts ≡ l.fn.self.counts)
    × (l.self.failed ≡ l.fn.self.failed)
    × (l.self.min_valid ≡ l.fn.self.min_valid)
