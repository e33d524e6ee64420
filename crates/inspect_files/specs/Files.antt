-- What one file of a log holds.
use Rattle.std.specs.Prelude.{◌≡◌, ◌&&◌, ◌++◌, ℕ, ℤ, Bool, List, length, map, nat_lt}
use Rattle.std.specs.List.{flat_map}
use Rattle.wal_page.specs.File.{pages_of}
use Rattle.wal_page.specs.Page.{is_pad}
use Rattle.wal_log.specs.declared.input.Segment.{Segment}
use Rattle.wal_log.specs.declared.reading.Placed.{Placed}
use Rattle.wal_survey.specs.Unbound.{AreReferencesOf, ReferencesValue}
use Rattle.wal_survey.specs.Surveys.{IsFileSurvey}
use Rattle.store.specs.declared.store.Unread.{Unread}
use Rattle.inspect_files.specs.declared.files.FileSurvey.{FileSurvey}

-- whether there are bytes, and all of them are zero
abbrev pub has_zeros_alone : List ℕ → Bool
has_zeros_alone bytes = nat_lt 0 (length bytes) && is_pad bytes

-- A file that was surveyed: all records of it that can be read, with their places, and the figures of it.
pub record Surveyed : Type 0 where
  pub placed : List Placed
  pub figures : FileSurvey

-- The figures of a file, of whose bytes these could not be read.
pub record AreFigures (in_checkpoint : Bool) (file : Segment) (unread : List Unread) (s : Surveyed) : Type 0 where
  pub in_checkpoint_is : s.figures.in_checkpoint ≡ in_checkpoint
  pub number : s.figures.number ≡ file.number
  pub bytes : s.figures.bytes ≡ length file.bytes
  pub pages : s.figures.pages ≡ length (pages_of file.bytes)
  pub zeros : s.figures.is_zeros ≡ has_zeros_alone file.bytes
  pub survey : IsFileSurvey in_checkpoint file s.placed s.figures.survey
  pub unread_are : s.figures.unread.items ≡ unread

-- the references that were those of any records are now those of these records after them, whatever the least valid time m is
abbrev pub TakesOn : ReferencesValue → List Placed → ReferencesValue → Type 0
TakesOn old placed new = (m : ℤ) (before : List Placed) → AreReferencesOf m before old → AreReferencesOf m (before ++ placed) new

-- P holds of a file with these figures, and its references were taken.
pub record HasSurveyed (P : Surveyed → Type 0) (figures : FileSurvey) (old new : ReferencesValue) : Type 0 where
  pub placed : List Placed
  pub surveyed : P (record { placed = placed; figures = figures })
  pub taken : TakesOn old placed new

-- the records of these files, one file after another
abbrev pub records_of : List Surveyed → List Placed
records_of surveyed = flat_map (λ s. s.placed) surveyed

-- P holds of files with these figures, and their references were taken.
pub record HaveSurveyed (P : List Surveyed → Type 0) (figures : List FileSurvey) (old new : ReferencesValue) : Type 0 where
  pub surveyed : List Surveyed
  pub are : P surveyed
  pub each : figures ≡ map (λ s. s.figures) surveyed
  pub taken : TakesOn old (records_of surveyed) new
