use Rattle.std.proofs.Common.{◌≡◌, ℕ, ◌+◌, ◌++◌, List, length}
use Rattle.std.specs.Vec.Iter.{into_iter_items}
use Rattle.wal_record.specs.declared.record.WalRecord.{WalRecord}
use Rattle.wal_log.specs.declared.reading.Placed.{Placed}
use Rattle.wal_log.specs.Log.{contents}
use Rattle.head_resolver.specs.Ahead.{AreSpreadAt}
use Rattle.replay_rounds.specs.Records.{records_of}
use Rattle.replay_rounds.specs.Shares.{slots_of}
use Rattle.replay_rounds.proofs.spreading.Spreading.add_pages.Given as goal

abbrev pub invariant-loop-page : goal.invariant-loop-page
invariant-loop-page l =
    ((done : List (List Placed)) × (done ++ into_iter_items l.page-iterator ≡ l.fn.pages.items) × (l.place ≡ l.fn.place + length (records_of done))
    × ((first : ℕ) (rs : List WalRecord) → AreSpreadAt l.resolver.min_valid (slots_of l.resolver l.changes) first rs l.fn.self.spread.items l.fn.self.counts → l.fn.place ≡ first + length rs
    → AreSpreadAt l.resolver.min_valid (slots_of l.resolver l.changes) first (rs ++ contents (records_of done)) l.self.spread.items l.self.counts))
    × (l.self.spread.workers ≡ l.fn.self.spread.workers)
