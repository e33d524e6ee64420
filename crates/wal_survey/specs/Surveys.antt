-- What the records of a log are.
use Rattle.std.specs.Prelude.{◌≡◌, ℕ, ℤ, ◌≤ℤ◌, Bool, List, [], ◌∷◌, map, length, take, slice_get, count_by, All, Contains, Option, Some, None, nat_eq}
use Rattle.std.specs.List.{AllZip, filter_map, flat_map, sum_by}
use Rattle.std.specs.Option.{option_eq, option_map}
use Rattle.hw_bytes.specs.Lists.{distinct}
use Rattle.wal_record.specs.declared.record.SeriesEntry.{SeriesEntry}
use Rattle.wal_record.specs.declared.record.SampleEntry.{SampleEntry}
use Rattle.wal_record.specs.declared.record.StoneEntry.{StoneEntry}
use Rattle.wal_record.specs.declared.record.WalRecord.{WalRecord}
use Rattle.wal_record.specs.declared.record.WalRecord.TheVariants.{Series, Samples, Stones, Other}
use Rattle.wal_record.specs.Records.{IsRecord}
use Rattle.wal_log.specs.declared.input.Segment.{Segment}
use Rattle.wal_log.specs.declared.reading.Placed.{Placed}
use Rattle.wal_log.specs.Log.{contents}
use Rattle.wal_unpack.specs.declared.fault.Passed.{Passed}
use Rattle.wal_unpack.specs.declared.unpacking.UnpackedRecord.{UnpackedRecord}
use Rattle.wal_unpack.specs.Salvage.{Event, IsSalvageOf, PassedOver, Taken, passed_in, records_in}
use Rattle.wal_survey.specs.declared.counts.KindCount.{KindCount}
use Rattle.wal_survey.specs.declared.counts.SkippedCount.{SkippedCount}
use Rattle.wal_survey.specs.declared.records.Readable.{Readable}
use Rattle.wal_survey.specs.declared.records.Survey.{Survey}

-- the entries of a record of series, and `None` for any other record
abbrev pub series_entries : WalRecord → Option (List SeriesEntry)
series_entries (Series entries) = Some entries
series_entries (Samples entries) = None
series_entries (Stones entries) = None
series_entries (Other kind) = None

-- the samples of a record of samples, and `None` for any other record
abbrev pub sample_entries : WalRecord → Option (List SampleEntry)
sample_entries (Series entries) = None
sample_entries (Samples entries) = Some entries
sample_entries (Stones entries) = None
sample_entries (Other kind) = None

-- the deletions of a record of deletions, and `None` for any other record
abbrev pub stone_entries : WalRecord → Option (List StoneEntry)
stone_entries (Series entries) = None
stone_entries (Samples entries) = None
stone_entries (Stones entries) = Some entries
stone_entries (Other kind) = None

-- the type of a record of another type, which is its type byte or, for the record of no bytes, `None`; nothing for a record of the three kinds
abbrev pub other_kind : WalRecord → Option (Option ℕ)
other_kind (Series entries) = None
other_kind (Samples entries) = None
other_kind (Stones entries) = None
other_kind (Other kind) = Some kind

-- The count of the records of one kind, each given by the list of its entries: how many lists, and how many entries in all of them.
pub record IsCountOf {A : Type 0} (lists : List (List A)) (count : KindCount) : Type 0 where
  pub records : count.records ≡ length lists
  pub entries : count.entries ≡ sum_by length lists

-- each of these types once, in the order of first sight, with how often it occurs
abbrev pub counts_of : List (Option ℕ) → List SkippedCount
counts_of kinds = map (λ kind. record { kind = kind; records = count_by (option_eq nat_eq kind) kinds }) (distinct (option_eq nat_eq) kinds)

-- the time of each sample, in order
abbrev pub times_of : List (List SampleEntry) → List ℤ
times_of lists = flat_map (λ samples. map (λ s. s.time) samples) lists

-- the least and the greatest of these times: each is one of them, and all are between; `None` if there is no time
abbrev pub AreEnds : List ℤ → Option (ℤ × ℤ) → Type 0
AreEnds times None = times ≡ []
AreEnds times (Some ends) = Contains times ends.0 × Contains times ends.1 × All (λ t. (ends.0 ≤ℤ t) × (t ≤ℤ ends.1)) times

-- The counts of a survey are those of these records, by their kinds, with the least and the greatest time of their samples.
pub record IsSurveyOf (records : List WalRecord) (s : Survey) : Type 0 where
  pub series : IsCountOf (filter_map series_entries records) s.series
  pub samples : IsCountOf (filter_map sample_entries records) s.samples
  pub stones : IsCountOf (filter_map stone_entries records) s.stones
  pub skipped : s.skipped.items ≡ counts_of (filter_map other_kind records)
  pub times : AreEnds (times_of (filter_map sample_entries records)) s.times

-- What can be read of a file with these records, where this is passed over: records and samples in all, how often something is passed over,
-- and how many bytes.
pub record IsReadableOf (taken : List WalRecord) (over : List Passed) (r : Readable) : Type 0 where
  pub records : r.records ≡ length taken
  pub samples : r.samples ≡ sum_by length (filter_map sample_entries taken)
  pub places : r.places ≡ length over
  pub passed : r.passed ≡ sum_by (λ p. p.bytes) over

-- the records before the first damage
abbrev pub front : List Event → List UnpackedRecord
front [] = []
front (Taken r ∷ more) = r ∷ front more
front (PassedOver x ∷ more) = []

-- the record is what the bytes of a record in this file spell, with its place
abbrev pub IsPlacedRecord : Bool → ℕ → UnpackedRecord → Placed → Type 0
IsPlacedRecord in_checkpoint number r p = (p.place ≡ record { in_checkpoint = in_checkpoint; file = number; offset = r.offset }) × IsRecord r.bytes p.content

-- The survey of a file, of which all that can be read are these records: its counts are of those before the first damage, if there is damage.
pub record IsFileSurvey (in_checkpoint : Bool) (file : Segment) (placed : List Placed) (s : Survey) : Type 0 where
  pub events : List Event
  pub salvaged : IsSalvageOf file.bytes events
  pub spelled : AllZip (IsPlacedRecord in_checkpoint file.number) (records_in events) placed
  pub counted : IsSurveyOf (contents (take (length (front events)) placed)) s
  pub damage : s.damage ≡ option_map (λ x. x.damage) (slice_get (passed_in events) 0)
  pub readable : IsReadableOf (contents placed) (passed_in events) s.readable
