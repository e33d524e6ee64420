-- The inspection of the log in a directory, by what is seen of it.
use Rattle.std.specs.Prelude.{◌≡◌, ◌++◌, [], ℕ, ℤ, Bool, true, false, List, None, Option, Some, bytes_eq, codes, map, nat_le}
use Rattle.std.specs.List.{AllZip, count_by, list_any}
use Rattle.std.specs.Option.{option_map}
use Rattle.std.specs.Path.{path_file_name, path_join}
use Rattle.wal_log.specs.declared.input.Segment.{Segment}
use Rattle.wal_log.specs.Names.{number_of}
use Rattle.wal_log.specs.Plan.{NumberedName}
use Rattle.wal_survey.specs.Unbound.{IsUnboundIn}
use Rattle.store.specs.Views.{View}
use Rattle.store.specs.declared.store.Unread.{Unread}
use Rattle.log_directory.specs.Listings.{AreListed, IsListing, IsReadIn}
use Rattle.inspect_files.specs.declared.inspection.Inspection.{Inspection}
use Rattle.inspect_files.specs.Files.{AreFigures, Surveyed, records_of}

-- whether the name is `wal`
abbrev pub is_wal : List ℕ → Bool
is_wal name = bytes_eq name (codes "wal")

-- whether the directory is one of records that came out of order: the last component of its path is `wbl`
abbrev pub is_wbl_name : Option (List ℕ) → Bool
is_wbl_name None = false
is_wbl_name (Some name) = bytes_eq name (codes "wbl")

abbrev pub is_wbl : List ℕ → Bool
is_wbl dir = is_wbl_name (path_file_name dir)

-- whether the name is that of a segment which is not past the checkpoint
abbrev pub is_at_most : ℕ → Option ℕ → Bool
is_at_most checkpoint None = false
is_at_most checkpoint (Some number) = nat_le number checkpoint

abbrev pub is_passed_over : Option ℕ → List ℕ → Bool
is_passed_over None name = false
is_passed_over (Some checkpoint) name = is_at_most checkpoint (number_of name)

-- the survey of the listed file of a directory, as far as it can be read
abbrev pub IsSurveyIn : View → List ℕ → Bool → NumberedName → Surveyed → Type 0
IsSurveyIn view dir in_checkpoint listed s = (file : Segment) × (unread : List Unread) × IsReadIn view dir listed file unread × AreFigures in_checkpoint file unread s

-- the surveys of the listed files of a directory, in order
abbrev pub AreSurveysIn : View → List ℕ → Bool → List NumberedName → List Surveyed → Type 0
AreSurveysIn view dir in_checkpoint listed files = AllZip (IsSurveyIn view dir in_checkpoint) listed files

-- The surveys of the files of a checkpoint, which is the directory.
pub record AreFolderSurveys (view : View) (dir : List ℕ) (files : List Surveyed) : Type 0 where
  pub names : List (List ℕ)
  pub listed : view.names dir names
  pub inner : List NumberedName
  pub are : AreListed None names inner
  pub each : AreSurveysIn view dir true inner files

-- the surveys of the files of the listed checkpoint of a directory, if there is one
abbrev pub AreCheckpointSurveys : View → List ℕ → Option NumberedName → List Surveyed → Type 0
AreCheckpointSurveys view dir None files = files ≡ []
AreCheckpointSurveys view dir (Some listed) files = AreFolderSurveys view (path_join dir listed.name) files

-- The surveys of the files of the listed checkpoint, then those of the listed segments.
pub record AreListedSurveys (view : View) (dir : List ℕ) (newest : Option NumberedName) (segments : List NumberedName) (files : List Surveyed) : Type 0 where
  pub first : List Surveyed
  pub later : List Surveyed
  pub all : files ≡ first ++ later
  pub checkpoint_files : AreCheckpointSurveys view dir newest first
  pub segment_files : AreSurveysIn view dir false segments later

-- The inspection of the log in a directory with the least valid time m: the surveys of the files of its newest checkpoint, then of the
-- segments past it, and the references of samples from m on that are unbound in the records of all these files.
pub record IsInspectionIn (view : View) (dir : List ℕ) (m : ℤ) (i : Inspection) : Type 0 where
  pub names : List (List ℕ)
  pub listed : view.names dir names
  pub newest : Option NumberedName
  pub segments : List NumberedName
  pub listing : IsListing names newest segments
  pub checkpoint : i.checkpoint ≡ option_map (λ c. c.number) newest
  pub surveyed : List Surveyed
  pub read : AreListedSurveys view dir newest segments surveyed
  pub files : i.files.items ≡ map (λ s. s.figures) surveyed
  pub unbound : IsUnboundIn m (records_of surveyed) i.unbound
  pub passed : i.passed_over ≡ count_by (is_passed_over i.checkpoint) names
  pub wal : i.has_wal ≡ list_any is_wal names
  pub wbl : i.is_wbl ≡ is_wbl dir
