-- The figures of all files of a log together.
use Rattle.std.specs.Prelude.{◌≡◌, ◌+◌, ◌∷◌, [], ℕ, ℤ, List, Option, None, Some, length}
use Rattle.std.specs.List.{flat_map, sum_by}
use Rattle.wal_survey.specs.declared.counts.KindCount.{KindCount}
use Rattle.wal_survey.specs.declared.counts.SkippedCount.{SkippedCount}
use Rattle.wal_survey.specs.Surveys.{AreEnds}
use Rattle.inspect_files.specs.declared.files.FileSurvey.{FileSurvey}
use Rattle.inspect_files.specs.declared.sums.Sums.{Sums}

-- the records and the entries of two counts
abbrev pub both_of : KindCount → KindCount → KindCount
both_of a b = record { records = a.records + b.records; entries = a.entries + b.entries }

-- the records of all these types
abbrev pub records_in : List SkippedCount → ℕ
records_in skipped = sum_by (λ c. c.records) skipped

-- the least and the greatest of some times, as a list
abbrev pub ends_of : Option (ℤ × ℤ) → List ℤ
ends_of None = []
ends_of (Some ends) = ends.0 ∷ ends.1 ∷ []

-- The count of one kind of records over files: the sums of their counts.
pub record IsTotal (kind : FileSurvey → KindCount) (files : List FileSurvey) (total : KindCount) : Type 0 where
  pub records : total.records ≡ sum_by (λ f. (kind f).records) files
  pub entries : total.entries ≡ sum_by (λ f. (kind f).entries) files

-- The figures of these files together. The times are between the ends of each file, and two of these ends.
pub record AreSumsOf (files : List FileSurvey) (s : Sums) : Type 0 where
  pub count : s.files ≡ length files
  pub bytes : s.bytes ≡ sum_by (λ f. f.bytes) files
  pub pages : s.pages ≡ sum_by (λ f. f.pages) files
  pub series : IsTotal (λ f. f.survey.series) files s.series
  pub samples : IsTotal (λ f. f.survey.samples) files s.samples
  pub stones : IsTotal (λ f. f.survey.stones) files s.stones
  pub skipped : s.skipped ≡ sum_by (λ f. records_in f.survey.skipped.items) files
  pub times : AreEnds (flat_map (λ f. ends_of f.survey.times) files) s.times
