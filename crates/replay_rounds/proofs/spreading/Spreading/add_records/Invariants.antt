use Rattle.std.proofs.Common.{◌≡◌, ℕ, ◌+◌, ◌++◌, List, length}
use Rattle.std.specs.Vec.Iter.{into_iter_items}
use Rattle.wal_record.specs.declared.record.WalRecord.{WalRecord}
use Rattle.wal_log.specs.declared.reading.Placed.{Placed}
use Rattle.wal_log.specs.Log.{contents}
use Rattle.head_resolver.specs.Ahead.{AreSpreadAt}
use Rattle.replay_rounds.specs.Shares.{slots_of}
use Rattle.replay_rounds.proofs.spreading.Spreading.add_records.Given as goal

abbrev pub invariant-loop-placed : goal.invariant-loop-placed
invariant-loop-placed l =
    ((done : List Placed) × (done ++ into_iter_items l.placed-iterator ≡ l.fn.records) × (l.place ≡ l.fn.place + length done)
    × ((first : ℕ) (rs : List WalRecord) → AreSpreadAt l.resolver.min_valid (slots_of l.resolver l.changes) first rs l.fn.self.spread.items l.fn.self.counts → l.fn.place ≡ first + length rs
    → AreSpreadAt l.resolver.min_valid (slots_of l.resolver l.changes) first (rs ++ contents done) l.self.spread.items l.self.counts))
    × (l.self.spread.workers ≡ l.fn.self.spread.workers)
