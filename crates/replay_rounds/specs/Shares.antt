-- What is known of a worker's job of spreading.
use Rattle.std.specs.Prelude.{◌≡◌, ℕ, ◌+◌, List, [], ◌∷◌, ◌++◌, Option, length, map}
use Rattle.std.specs.List.{AllByRecursion, flat_map}
use Rattle.wal_record.specs.declared.record.WalRecord.{WalRecord}
use Rattle.wal_log.specs.declared.reading.Placed.{Placed}
use Rattle.wal_log.specs.Log.{contents}
use Rattle.crew.specs.Jobs.{AreDone}
use Rattle.head_series.specs.Table.{slot_at}
use Rattle.head_resolver.specs.Ahead.{AreSpreadAt}
use Rattle.head_resolver.specs.Changes.{slot_before, Change}
use Rattle.head_resolver.specs.Resolved.{ResolverValue}
use Rattle.replay_rounds.specs.Records.{records_of}
use Rattle.replay_rounds.specs.Windows.{IsFresh}
use Rattle.replay_rounds.specs.declared.window.SharedWindow.{SharedWindow}
use Rattle.replay_rounds.specs.declared.spreading.SpreadJob.{SpreadJob}
use Rattle.replay_rounds.specs.declared.spreading.Spreading.{Spreading}

-- the slots that references have at each place of the window that a resolver was bound ahead for
abbrev pub slots_of : ResolverValue → List Change → ℕ → ℕ → Option ℕ
slots_of resolver changes = slot_before changes (slot_at resolver.table)

-- the job is to resolve by this resolver and these changes, and no records were spread
abbrev pub IsFreshJob : ResolverValue → List Change → ℕ → SpreadJob → Type 0
IsFreshJob resolver changes workers job = (job.resolver.now ≡ resolver) × (job.changes.now ≡ changes) × IsFresh workers job.made

-- the first job has the records from the place n on, and each other one those after the one before it
abbrev pub ArePlaced : ℕ → List SpreadJob → Type 0
ArePlaced n [] = Unit {0}
ArePlaced n (job ∷ jobs) = (job.place ≡ n) × ArePlaced (n + length (records_of job.pages.items)) jobs

-- the records of the job's pages were spread after those before
abbrev pub HasSpread : SpreadJob → SpreadJob → Type 0
HasSpread old new =
    ((first : ℕ) (rs : List WalRecord) → AreSpreadAt old.resolver.now.min_valid (slots_of old.resolver.now old.changes.now) first rs old.made.spread.items old.made.counts → old.place ≡ first + length rs
    → AreSpreadAt old.resolver.now.min_valid (slots_of old.resolver.now old.changes.now) first (rs ++ contents (records_of old.pages.items)) new.made.spread.items new.made.counts)
    × (new.made.spread.workers ≡ old.made.spread.workers)

-- this is what the jobs made, in order, once each was done
abbrev pub AreMadeBy : List SpreadJob → List Spreading → Type 0
AreMadeBy jobs made = (after : List SpreadJob) × AreDone HasSpread jobs after × (made ≡ map (λ job. job.made) after)

-- the first of these pages were shared out: each job is fresh, the jobs have their pages in order, each at its place, and the others are left
abbrev pub IsShared : ResolverValue → List Change → ℕ → List (List Placed) → SharedWindow → Type 0
IsShared resolver changes workers pages sharing =
    AllByRecursion (IsFreshJob resolver changes workers) sharing.jobs.items
    × ArePlaced 0 sharing.jobs.items
    × (sharing.place ≡ length (records_of (flat_map (λ job. job.pages.items) sharing.jobs.items)))
    × (flat_map (λ job. job.pages.items) sharing.jobs.items ++ sharing.pages.items ≡ pages)
