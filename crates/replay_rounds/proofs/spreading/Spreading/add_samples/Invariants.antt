use Rattle.std.proofs.Common.{◌≡◌, ℕ, ◌+◌, ◌++◌, List, length}
use Rattle.wal_record.specs.declared.record.WalRecord.{WalRecord}
use Rattle.wal_log.specs.Log.{contents}
use Rattle.head_resolver.specs.Ahead.{AreSpreadAt}
use Rattle.replay_rounds.specs.Shares.{slots_of}
use Rattle.replay_rounds.proofs.spreading.Spreading.add_samples.Given as goal

-- the records so far were spread
abbrev pub invariant-loop-samples : goal.invariant-loop-samples
invariant-loop-samples l =
    ((done : List WalRecord) × (done ++ l.lists ≡ contents l.fn.records) × (l.place ≡ l.fn.place + length done)
    × ((first : ℕ) (rs : List WalRecord) → AreSpreadAt l.resolver.min_valid (slots_of l.resolver l.changes) first rs l.fn.self.spread.items l.fn.self.counts → l.fn.place ≡ first + length rs
    → AreSpreadAt l.resolver.min_valid (slots_of l.resolver l.changes) first (rs ++ done) l.self.spread.items l.self.counts))
    × (l.self.spread.workers ≡ l.fn.self.spread.workers)

abbrev pub decreases-loop-samples : goal.decreases-loop-samples
decreases-loop-samples l = length l.lists
