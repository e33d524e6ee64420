use Rattle.std.proofs.Common.{◌≡◌, ◌≤◌, ◌+◌, ◌++◌, [], ℕ, ℤ, List, false, length, take}
use Rattle.wal_record.specs.declared.record.WalRecord.{WalRecord}
use Rattle.wal_log.specs.Log.{contents}
use Rattle.head_resolver.specs.Ahead.{IsAhead}
use Rattle.head_resolver.specs.Changes.{AreBelow}
use Rattle.head_resolver.specs.Taken.{taken_of}
use Rattle.replay_rounds.proofs.binding.bind_records.Given as goal

-- the records so far are bound
abbrev pub invariant-loop-placed : goal.invariant-loop-placed
invariant-loop-placed l =
    (l.place ≡ l.place-2 + l.placed-index)
    × ((m : ℤ) (rs back : List WalRecord) → IsAhead (taken_of m rs) [] back l.fn.changes l.fn.resolver → l.place-2 ≡ length back
    → IsAhead (taken_of m rs) [] (back ++ contents (take l.placed-index l.records)) l.changes l.resolver)
    × ((n : ℕ) → length l.resolver.table.series ≤ n → AreBelow n l.fn.changes → AreBelow n l.changes)
    × (length l.fn.resolver.table.series ≤ length l.resolver.table.series)
    × (l.resolver.min_valid ≡ l.fn.resolver.min_valid)
    × (l.resolver.failed ≡ false)
