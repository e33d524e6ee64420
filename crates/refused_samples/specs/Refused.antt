-- The samples of a log that its head does not keep.
use Rattle.std.specs.Prelude.{ℕ, ℤ, Option, List, [], ◌∷◌, if◌then◌else◌}
use Rattle.hw_bytes.specs.Lists.{along}
use Rattle.wal_record.specs.Entries.{Entry, series, sample, stone, entries_of}
use Rattle.wal_record.specs.declared.record.WalRecord.{WalRecord}
use Rattle.wal_record.specs.Validity.{valid}
use Rattle.wal_log.specs.declared.reading.Placed.{Placed}
use Rattle.wal_log.specs.Log.{contents}
use Rattle.answers.specs.declared.requests.LogForm.{LogForm}
use Rattle.answers.specs.declared.damage.Flaw.{Flaw}
use Rattle.store.specs.Views.{View}
use Rattle.head_resolver.specs.Counts.{Fate, fate_at, is_fate}
use Rattle.log_directory.specs.Replays.{IsReadingIn}
use Rattle.head_intervals.specs.declared.intervals.Intervals.{Intervals}
use Rattle.head_intervals.specs.Intervals.{AreCounts}
use Rattle.refused_samples.specs.declared.counting.RefusedCounts.{RefusedCounts}

-- the time of an entry that is a sample of this fate
abbrev pub time_with : Fate → Fate → Entry → List ℤ
time_with wanted fate (series e) = []
time_with wanted fate (sample s) = if is_fate wanted fate then s.time ∷ [] else []
time_with wanted fate (stone d) = []

-- the times of the samples of these entries that have this fate, in order
abbrev pub times_with : Fate → List Entry → List ℤ
times_with wanted es = along (λ before e. time_with wanted (fate_at before e) e) es

-- The counts are those of the stale and the unknown samples of these records, in each interval, with a least valid time.
pub record AreRefused (i : Intervals) (min_valid : ℤ) (records : List WalRecord) (c : RefusedCounts) : Type 0 where
  pub stale : AreCounts i (times_with Fate.stale (entries_of (valid min_valid records))) c.stale.items
  pub unknown : AreCounts i (times_with Fate.unknown (entries_of (valid min_valid records))) c.unknown.items

-- The counts are those of the log in a directory, in this form, before its damage.
pub record AreRefusedIn (i : Intervals) (form : LogForm) (view : View) (dir : List ℕ) (min_valid : ℤ) (c : RefusedCounts) : Type 0 where
  pub told : Option Flaw
  pub placed : List Placed
  pub reading : IsReadingIn form view dir told placed
  pub counts : AreRefused i min_valid (contents placed) c
