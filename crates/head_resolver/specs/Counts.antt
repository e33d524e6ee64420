-- What is counted of a log, by places in the list of entries.
use Rattle.std.specs.Prelude.{ℕ, ℤ, Bool, true, false, List, [], ◌∷◌, Option, None, Some, map, filter, count_by}
use Rattle.hw_bytes.specs.Lists.{along}
use Rattle.wal_record.specs.declared.record.SampleEntry.{SampleEntry}
use Rattle.wal_record.specs.declared.record.StoneEntry.{StoneEntry}
use Rattle.wal_record.specs.declared.record.WalRecord.{WalRecord}
use Rattle.wal_record.specs.declared.record.WalRecord.TheVariants.{Series, Samples, Stones, Other}
use Rattle.wal_record.specs.Labels.{same_labels}
use Rattle.wal_record.specs.Entries.{Entry, series, sample, stone, entries_of}
use Rattle.head_column.specs.declared.items.Item.{Item}
use Rattle.head_column.specs.declared.items.Item.TheVariants as item
use Rattle.head_column.specs.declared.items.Outcome.{Outcome}
use Rattle.head_column.specs.declared.items.Outcome.TheVariants as outcome
use Rattle.head_column.specs.Items.{outcome_of}
use Rattle.head_series.specs.Table.{Labels}
use Rattle.head_resolver.specs.declared.counts.Counts.{Counts}
use Rattle.head_resolver.specs.Owners.{owner}
use Rattle.head_resolver.specs.Taken.{Taken}

-- the item of a sample
abbrev pub sample_item : SampleEntry → Item
sample_item s = item.Sample (record { time = s.time; value = s.value })

-- the item of a deletion
abbrev pub stone_item : StoneEntry → Item
stone_item d = item.Stone (record { min_time = d.min_time; max_time = d.max_time })

abbrev pub with_owner : Option Labels → Item → List (Labels × Item)
with_owner None i = []
with_owner (Some l) i = (l, i) ∷ []

-- the item of an entry with the owner of its reference, if it has one at its place
abbrev pub known_at : List Entry → Entry → List (Labels × Item)
known_at before (series e) = []
known_at before (sample s) = with_owner (owner before s.reference) (sample_item s)
known_at before (stone d) = with_owner (owner before d.reference) (stone_item d)

-- the known items with their owners, in order
abbrev pub known : List Entry → List (Labels × Item)
known es = along known_at es

-- the known items that the label set owns, in order
abbrev pub items_of : Labels → List Entry → List Item
items_of l es = map (λ k. k.1) (filter (λ k. same_labels l k.0) (known es))

-- what becomes of an entry
pub data Fate : Type 0 where
  bound : Fate
  accepted : Fate
  stale : Fate
  unknown : Fate
  hides : Fate
  empty_stone : Fate
  unknown_stone : Fate

abbrev pub fate_of : Outcome → Fate
fate_of outcome.Accepted = accepted
fate_of outcome.Stale = stale
fate_of outcome.Hidden = hides
fate_of outcome.EmptyStone = empty_stone

-- an item whose reference has no owner at its place is unknown, whatever its times
abbrev pub unknown_fate : Item → Fate
unknown_fate (item.Sample s) = unknown
unknown_fate (item.Stone r) = unknown_stone

-- what becomes of an item after these entries, with the owner of its reference, if it has one
abbrev pub item_fate : List Entry → Option Labels → Item → Fate
item_fate before None i = unknown_fate i
item_fate before (Some l) i = fate_of (outcome_of (items_of l before) i)

-- what becomes of an entry after these entries
abbrev pub fate_at : List Entry → Entry → Fate
fate_at before (series e) = bound
fate_at before (sample s) = item_fate before (owner before s.reference) (sample_item s)
fate_at before (stone d) = item_fate before (owner before d.reference) (stone_item d)

-- what becomes of each entry, in order
abbrev pub fates : List Entry → List Fate
fates es = along (λ before e. fate_at before e ∷ []) es

abbrev pub time_at : Fate → Entry → List ℤ
time_at accepted (sample s) = s.time ∷ []
time_at fate entry = []

-- the times of the accepted samples, in order
abbrev pub accepted_times : List Entry → List ℤ
accepted_times es = along (λ before e. time_at (fate_at before e) e) es

abbrev pub is_fate : Fate → Fate → Bool
is_fate bound bound = true
is_fate accepted accepted = true
is_fate stale stale = true
is_fate unknown unknown = true
is_fate hides hides = true
is_fate empty_stone empty_stone = true
is_fate unknown_stone unknown_stone = true
is_fate f g = false

-- the classes of records, which are counted apart
pub data Class : Type 0 where
  series_class : Class
  samples_class : Class
  stones_class : Class
  other_class : Class

abbrev pub class_of : WalRecord → Class
class_of (Series es) = series_class
class_of (Samples ss) = samples_class
class_of (Stones ds) = stones_class
class_of (Other kind) = other_class

abbrev pub is_class : Class → Class → Bool
is_class series_class series_class = true
is_class samples_class samples_class = true
is_class stones_class stones_class = true
is_class other_class other_class = true
is_class c d = false

-- whether the record is of this class
abbrev pub has_class : Class → WalRecord → Bool
has_class c r = is_class c (class_of r)

-- the counts of what was taken of a log, record by record
abbrev pub counts_of : Taken → Counts
counts_of t = let es = entries_of t.kept in record {
  series_records = count_by (has_class series_class) t.kept;
  sample_records = count_by (has_class samples_class) t.kept;
  stone_records = count_by (has_class stones_class) t.kept;
  skipped_records = count_by (has_class other_class) t.kept;
  series_entries = count_by (is_fate bound) (fates es);
  accepted = count_by (is_fate accepted) (fates es);
  stale = count_by (is_fate stale) (fates es);
  unknown = count_by (is_fate unknown) (fates es);
  hiding = count_by (is_fate hides) (fates es);
  empty_stones = count_by (is_fate empty_stone) (fates es);
  unknown_stones = count_by (is_fate unknown_stone) (fates es);
  expired_samples = t.expired_samples;
  expired_stones = t.expired_stones;
}

-- the count of records of this class
abbrev pub class_count : Class → Counts → ℕ
class_count series_class c = c.series_records
class_count samples_class c = c.sample_records
class_count stones_class c = c.stone_records
class_count other_class c = c.skipped_records

-- the count of records of this record's class
abbrev pub count_of_class : WalRecord → Counts → ℕ
count_of_class r c = class_count (class_of r) c
