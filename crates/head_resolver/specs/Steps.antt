-- What one entry does to the counts and to the table, and what a record does to the counts.
use Rattle.std.specs.Prelude.{◌≡◌, ℕ, ◌+◌, ◌<◌, ℤ, List, [], ◌∷◌, ◌++◌, ◌⊎◌}
use Rattle.wal_record.specs.declared.record.WalRecord.{WalRecord}
use Rattle.wal_record.specs.declared.record.WalRecord.TheVariants.{Series, Samples, Stones, Other}
use Rattle.wal_record.specs.Entries.{Entry, series, sample, stone}
use Rattle.wal_record.specs.Validity.{expired_samples, expired_stones}
use Rattle.head_series.specs.Table.{Table, IsFull}
use Rattle.head_series.specs.Bindings.{Binding, IsTableOf}
use Rattle.head_resolver.specs.declared.counts.Counts.{Counts}
use Rattle.head_resolver.specs.Owners.{binding}
use Rattle.head_resolver.specs.Counts.{Fate, bound, accepted, stale, unknown, hides, empty_stone, unknown_stone}
use Rattle.head_resolver.specs.Limits.{count_limit}

-- the counts with one more entry of this fate
abbrev pub with_fate : Fate → Counts → Counts
with_fate bound c = record c { series_entries = c.series_entries + 1 }
with_fate accepted c = record c { accepted = c.accepted + 1 }
with_fate stale c = record c { stale = c.stale + 1 }
with_fate unknown c = record c { unknown = c.unknown + 1 }
with_fate hides c = record c { hiding = c.hiding + 1 }
with_fate empty_stone c = record c { empty_stones = c.empty_stones + 1 }
with_fate unknown_stone c = record c { unknown_stones = c.unknown_stones + 1 }

-- the counts with one more record of this type
abbrev pub with_record : WalRecord → Counts → Counts
with_record (Series es) c = record c { series_records = c.series_records + 1 }
with_record (Samples ss) c = record c { sample_records = c.sample_records + 1 }
with_record (Stones ds) c = record c { stone_records = c.stone_records + 1 }
with_record (Other kind) c = record c { skipped_records = c.skipped_records + 1 }

-- the counts with the expired entries of one more record, where m is the least valid time
abbrev pub with_expired : ℤ → WalRecord → Counts → Counts
with_expired m r c = record c {
  expired_samples = c.expired_samples + expired_samples m (r ∷ []);
  expired_stones = c.expired_stones + expired_stones m (r ∷ []);
}

-- a count of expired entries does not have 64 bits with those of one more record
abbrev pub IsExpiredOver : ℤ → WalRecord → Counts → Type 0
IsExpiredOver m r c = (count_limit < c.expired_samples + expired_samples m (r ∷ [])) ⊎ (count_limit < c.expired_stones + expired_stones m (r ∷ []))

-- the number of entries of this fate: the count that `with_fate` raises
abbrev pub count_of_fate : Fate → Counts → ℕ
count_of_fate bound c = c.series_entries
count_of_fate accepted c = c.accepted
count_of_fate stale c = c.stale
count_of_fate unknown c = c.unknown
count_of_fate hides c = c.hiding
count_of_fate empty_stone c = c.empty_stones
count_of_fate unknown_stone c = c.unknown_stones

-- the table has no room for the series or the texts of the entry, if it is a series entry
abbrev pub IsOverTable : Table → Entry → Type 0
IsOverTable t (series e) = IsFull t e.labels
IsOverTable t (sample s) = ⊥
IsOverTable t (stone d) = ⊥

-- the table after an entry: whatever bindings it shows, with what the entry binds after them
abbrev pub IsTableAfter : Table → Entry → Table → Type 0
IsTableAfter t (series e) u = (bs : List Binding) → IsTableOf bs t → IsTableOf (bs ++ binding (series e)) u
IsTableAfter t (sample s) u = u ≡ t
IsTableAfter t (stone d) u = u ≡ t

-- the counts of no records
abbrev pub no_counts : Counts
no_counts = record {
  series_records = 0;
  sample_records = 0;
  stone_records = 0;
  skipped_records = 0;
  series_entries = 0;
  accepted = 0;
  stale = 0;
  unknown = 0;
  hiding = 0;
  empty_stones = 0;
  unknown_stones = 0;
  expired_samples = 0;
  expired_stones = 0;
}

-- the sums of two counts of each kind: a word of proofs and of private functions
abbrev pub plus : Counts → Counts → Counts
plus c d = record {
  series_records = c.series_records + d.series_records;
  sample_records = c.sample_records + d.sample_records;
  stone_records = c.stone_records + d.stone_records;
  skipped_records = c.skipped_records + d.skipped_records;
  series_entries = c.series_entries + d.series_entries;
  accepted = c.accepted + d.accepted;
  stale = c.stale + d.stale;
  unknown = c.unknown + d.unknown;
  hiding = c.hiding + d.hiding;
  empty_stones = c.empty_stones + d.empty_stones;
  unknown_stones = c.unknown_stones + d.unknown_stones;
  expired_samples = c.expired_samples + d.expired_samples;
  expired_stones = c.expired_stones + d.expired_stones;
}
