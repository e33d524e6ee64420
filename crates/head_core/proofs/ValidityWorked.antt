-- Worked least valid times, by computation: what a log says with one, and what it leaves of what the log says.
use Rattle.std.proofs.Common.{◌≡◌, ℕ, pos, List, [], ◌∷◌, ◌++◌, Some, None, refl}
use Rattle.std.specs.Prelude.{map}
use Rattle.wal_record.specs.declared.record.SampleEntry.{SampleEntry}
use Rattle.wal_record.specs.declared.record.StoneEntry.{StoneEntry}
use Rattle.wal_record.specs.declared.record.WalRecord.{WalRecord}
use Rattle.wal_record.specs.declared.record.WalRecord.TheVariants.{Series, Samples, Stones}
use Rattle.wal_record.specs.Entries.{entries_of}
use Rattle.wal_record.specs.Labels.{label}
use Rattle.wal_record.specs.Validity.{valid, rewritten}
use Rattle.head_column.specs.Samples.{Sample}
use Rattle.head_column.specs.Times.{greatest}
use Rattle.head_column.specs.Histories.{History, history_of}
use Rattle.head_column.specs.Validity.{history_from, latest_from}
use Rattle.head_series.specs.Table.{Labels}
use Rattle.head_series.specs.Bindings.{series_of}
use Rattle.head_resolver.specs.Owners.{bindings}
use Rattle.head_resolver.specs.Taken.{taken_of}
use Rattle.head_resolver.specs.Counts.{bound, accepted, stale, unknown, hides, accepted_times, counts_of, fates, items_of}

-- {1=2} and {1=3}
abbrev first : Labels
first = label (1 ∷ []) (2 ∷ []) ∷ []

abbrev second : Labels
second = label (1 ∷ []) (3 ∷ []) ∷ []

abbrev v : ℕ → ℕ → ℕ → SampleEntry
v reference time value = record { reference = reference; time = pos time; value = pos value }

abbrev d : ℕ → ℕ → ℕ → StoneEntry
d reference min_time max_time = record { reference = reference; min_time = pos min_time; max_time = pos max_time }

abbrev log : List WalRecord
log =
    Series (record { reference = 1; labels = first } ∷ record { reference = 2; labels = second } ∷ [])
    ∷ Samples (v 1 100 1 ∷ v 1 5000 2 ∷ v 2 200 3 ∷ v 9 50 4 ∷ v 9 6000 5 ∷ [])
    ∷ Stones (d 1 0 4999 ∷ d 1 0 5500 ∷ d 2 0 999 ∷ []) ∷ []

-- the history of each series
abbrev histories : List WalRecord → List History
histories rs = map (λ l. history_of (items_of l (entries_of rs))) (series_of (bindings (entries_of rs)))

abbrev left : List History
left =
    record { samples = record { time = pos 5000; value = pos 2 } ∷ []; hidden = record { min_time = pos 1000; max_time = pos 5500 } ∷ [] }
    ∷ record { samples = []; hidden = [] } ∷ []

-- replayed with 1000, by which three samples and a deletion are expired
with_it : histories (valid (pos 1000) log) ≡ left
with_it = refl

counted : counts_of (taken_of (pos 1000) log) ≡ record {
  series_records = 1;
  sample_records = 1;
  stone_records = 1;
  skipped_records = 0;
  series_entries = 2;
  accepted = 1;
  stale = 0;
  unknown = 1;
  hiding = 2;
  empty_stones = 0;
  unknown_stones = 0;
  expired_samples = 3;
  expired_stones = 1;
}
counted = refl

-- replayed with none, and truncated at 1000
truncated_is : map (history_from (pos 1000)) (histories log) ≡ left
truncated_is = refl

latest : (greatest (accepted_times (entries_of (valid (pos 1000) log))) ≡ Some (pos 5000)) × (latest_from (pos 1000) (greatest (accepted_times (entries_of log))) ≡ Some (pos 5000))
latest = (refl, refl)

-- truncated after the last sample, it has no greatest time
none_left : latest_from (pos 5001) (greatest (accepted_times (entries_of log))) ≡ None
none_left = refl

-- the records of a checkpoint, replayed with 1000
again : (histories (valid (pos 1000) (rewritten (pos 1000) log)) ≡ left) × (fates (entries_of (valid (pos 1000) (rewritten (pos 1000) log))) ≡ bound ∷ bound ∷ accepted ∷ unknown ∷ hides ∷ hides ∷ [])
again = (refl, refl)

-- ---- a checkpoint made with 5500 of one made with 1000 and of a segment; what it is made of; and either with a second segment

abbrev segment1 : List WalRecord
segment1 = Samples (v 1 6000 7 ∷ v 2 6000 8 ∷ []) ∷ []

abbrev segment2 : List WalRecord
segment2 = Samples (v 1 6000 9 ∷ []) ∷ Samples (v 2 7000 1 ∷ []) ∷ []

abbrev whole : List WalRecord
whole = rewritten (pos 1000) log ++ segment1

abbrev later_left : List Sample → List History
later_left more =
    record { samples = record { time = pos 6000; value = pos 7 } ∷ []; hidden = record { min_time = pos 5500; max_time = pos 5500 } ∷ [] }
    ∷ record { samples = record { time = pos 6000; value = pos 8 } ∷ more; hidden = [] } ∷ []

of_checkpoint : histories (valid (pos 5500) (rewritten (pos 5500) whole)) ≡ later_left []
of_checkpoint = refl

of_whole : histories (valid (pos 5500) whole) ≡ later_left []
of_whole = refl

its_fates : fates (entries_of (valid (pos 5500) (rewritten (pos 5500) whole))) ≡ bound ∷ bound ∷ unknown ∷ hides ∷ accepted ∷ accepted ∷ []
its_fates = refl

behind_checkpoint : histories (valid (pos 5500) (rewritten (pos 5500) whole ++ segment2)) ≡ later_left (record { time = pos 7000; value = pos 1 } ∷ [])
behind_checkpoint = refl

behind_whole : fates (entries_of (valid (pos 5500) (whole ++ segment2))) ≡ bound ∷ bound ∷ unknown ∷ hides ∷ accepted ∷ accepted ∷ stale ∷ accepted ∷ []
behind_whole = refl
