-- A head to which the records of a log are applied, and the times of the samples that it did not keep.
use Rattle.std.specs.Prelude.{◌≡◌, ⊤, ℕ, ℤ, List, ◌∷◌, [], ◌++◌, ◌==◌, if◌then◌else◌}
use Rattle.wal_record.specs.declared.record.WalRecord.{WalRecord}
use Rattle.wal_record.specs.declared.record.WalRecord.TheVariants.{Series, Samples, Stones, Other}
use Rattle.wal_record.specs.Entries.{Entry, entries_in, entries_of}
use Rattle.wal_record.specs.Validity.{valid, valid_in}
use Rattle.wal_log.specs.declared.reading.Placed.{Placed}
use Rattle.wal_log.specs.Log.{contents}
use Rattle.head_resolver.specs.Taken.{Taken}
use Rattle.head_resolver.specs.Counts.{Fate}
use Rattle.head_core.specs.Content.{Content, IsContentOf}
use Rattle.head_intervals.specs.declared.intervals.Intervals.{Intervals}
use Rattle.head_intervals.specs.Intervals.{AreCounts}
use Rattle.refused_samples.specs.declared.counting.RefusedCounts.{RefusedCounts}
use Rattle.refused_samples.specs.declared.replaying.Replaying.{Replaying}
use Rattle.refused_samples.specs.Refused.{times_with}

-- what the least valid time leaves of a record's entries
abbrev pub left_in : ℤ → WalRecord → List Entry
left_in m r = entries_in (valid_in m r)

-- the record is not one of samples
abbrev pub HasNoSamples : WalRecord → Type 0
HasNoSamples (Series es) = ⊤
HasNoSamples (Samples ss) = ⊥
HasNoSamples (Stones ds) = ⊤
HasNoSamples (Other kind) = ⊤

-- the times, and one more if the number of samples of its kind has grown
abbrev pub with_grown : ℕ → ℕ → ℤ → List ℤ → List ℤ
with_grown before after time times = if before == after then times else times ++ time ∷ []

-- This is the content of the log of these valid entries, in whatever records, and the counts are those of its stale and its unknown samples.
pub record IsCounted (i : Intervals) (m : ℤ) (es : List Entry) (c : Content) (counts : RefusedCounts) : Type 0 where
  pub taken : Taken
  pub content : IsContentOf taken c
  pub entries : entries_of taken.kept ≡ es
  pub time : c.min_valid ≡ m
  pub stale : AreCounts i (times_with Fate.stale es) counts.stale.items
  pub unknown : AreCounts i (times_with Fate.unknown es) counts.unknown.items

-- These valid entries were replayed, with these intervals and this least valid time.
pub record IsReplaying (i : Intervals) (m : ℤ) (es : List Entry) (r : Replaying) : Type 0 where
  pub same : r.intervals ≡ i
  pub counted : IsCounted i m es r.head.content r.counts

-- from the first state to the last these entries were replayed, those that the least valid time leaves
abbrev pub Replays : Replaying → (ℤ → List Entry) → Replaying → Type 0
Replays first more last = (i : Intervals) (m : ℤ) (es : List Entry) → IsReplaying i m es first → IsReplaying i m (es ++ more m) last

-- from the first state to the last these records were replayed
abbrev pub HasReplayed : Replaying → List Placed → Replaying → Type 0
HasReplayed first records last = Replays first (λ m. entries_of (valid m (contents records))) last
