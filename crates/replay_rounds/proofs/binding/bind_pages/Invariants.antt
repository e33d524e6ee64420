use Rattle.std.proofs.Common.{◌≡◌, ◌≤◌, [], ℕ, ℤ, List, false, length, take}
use Rattle.wal_record.specs.declared.record.WalRecord.{WalRecord}
use Rattle.wal_log.specs.Log.{contents}
use Rattle.head_resolver.specs.Ahead.{IsAhead}
use Rattle.head_resolver.specs.Changes.{AreBelow}
use Rattle.head_resolver.specs.Taken.{taken_of}
use Rattle.replay_rounds.specs.Records.{records_of}
use Rattle.replay_rounds.proofs.binding.bind_pages.Given as goal

-- the records of the pages so far are bound
abbrev pub invariant-loop-page : goal.invariant-loop-page
invariant-loop-page l =
    (l.place ≡ length (records_of (take l.page-index l.pages)))
    × ((m : ℤ) (rs : List WalRecord) → IsAhead (taken_of m rs) [] [] l.fn.changes l.fn.resolver → IsAhead (taken_of m rs) [] (contents (records_of (take l.page-index l.pages))) l.changes l.resolver)
    × ((n : ℕ) → length l.resolver.table.series ≤ n → AreBelow n l.fn.changes → AreBelow n l.changes)
    × (length l.fn.resolver.table.series ≤ length l.resolver.table.series)
    × (l.resolver.min_valid ≡ l.fn.resolver.min_valid)
    × (l.resolver.failed ≡ false)
