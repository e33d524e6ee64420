-- The JSON document of an inspection.
use Rattle.std.specs.Prelude.{◌≡◌, ◌++◌, ◌∷◌, [], ◌↔◌, ℕ, ℤ, Bool, Contains, true, false, List, Option, None, Some, codes, fold, length, map}
use Rattle.serde_json.specs.Data.{Data, Members, array, no_members, null, number, object, put, string, unsigned}
use Rattle.serde_json.specs.Find.{of_integer}
use Rattle.serde_json.specs.View.{items_of}
use Rattle.serde_json.specs.Written.{compact_text}
use Rattle.wal_page.specs.Kinds.{name_of, number_of}
use Rattle.wal_page.specs.declared.fault.FaultKind.TheVariants as kind
use Rattle.wal_unpack.specs.declared.fault.UnpackDamage.{UnpackDamage}
use Rattle.wal_unpack.specs.declared.fault.UnpackFault.{UnpackFault}
use Rattle.wal_unpack.specs.declared.fault.UnpackFault.TheVariants.{BadBlock, BadRecord, Hole, InFile, Mixed}
use Rattle.wal_survey.specs.declared.counts.KindCount.{KindCount}
use Rattle.wal_survey.specs.declared.counts.SkippedCount.{SkippedCount}
use Rattle.wal_survey.specs.declared.records.Readable.{Readable}
use Rattle.wal_survey.specs.declared.records.Survey.{Survey}
use Rattle.inspect_files.specs.declared.files.FileSurvey.{FileSurvey}
use Rattle.inspect_files.specs.declared.inspection.Inspection.{Inspection}
use Rattle.inspect_files.specs.declared.sums.Sums.{Sums as LogSums}
use Rattle.inspect_files.specs.Sums.{AreSumsOf}
use Rattle.inspect_files.specs.Inspections.{IsInspectionIn}
use Rattle.store.specs.Views.{View}
use Rattle.store.specs.declared.store.Unread.{Unread}
use Rattle.inspect_command.specs.declared.remarks.Remark.{Remark}
use Rattle.inspect_command.specs.Remarks.{Holds}

-- a member of an object: its name, and its value
abbrev pub Member : Type 0
Member = List ℕ × Data

-- the members with these put among them, one after another; an object keeps them in the order of their names
abbrev pub with_members : List Member → Members → Members
with_members new old = fold (λ members m. put m.0 m.1 members) old new

-- the object of these members
abbrev pub object_of : List Member → Data
object_of members = object (with_members members no_members)

-- a value for each of these
abbrev pub array_of : {A : Type 0} → (A → Data) → List A → Data
array_of h xs = array (items_of (map h xs))

abbrev pub or_null : {A : Type 0} → (A → Data) → Option A → Data
or_null h None = null
or_null h (Some x) = h x

abbrev pub natural : ℕ → Data
natural n = number (unsigned n)

abbrev pub record_members : KindCount → List Member
record_members c = (codes "records", natural c.records) ∷ (codes "entries", natural c.entries) ∷ []

abbrev pub count_data : KindCount → Data
count_data c = object_of (record_members c)

abbrev pub count_members : KindCount → KindCount → KindCount → List Member
count_members series samples deletions = (codes "series", count_data series) ∷ (codes "samples", count_data samples) ∷ (codes "deletions", count_data deletions) ∷ []

abbrev pub size_members : ℕ → ℕ → List Member
size_members bytes pages = (codes "bytes", natural bytes) ∷ (codes "pages", natural pages) ∷ []

-- the least and the greatest time, or `null` for each
abbrev pub time_members : Option (ℤ × ℤ) → List Member
time_members ends = (codes "first", or_null (λ e. number (of_integer e.0)) ends) ∷ (codes "last", or_null (λ e. number (of_integer e.1)) ends) ∷ []

abbrev pub type_members : SkippedCount → List Member
type_members c = (codes "type", or_null natural c.kind) ∷ (codes "records", natural c.records) ∷ []

abbrev pub skipped_data : SkippedCount → Data
skipped_data c = object_of (type_members c)

-- the number of the kind of a fault, if it has one, and its name
abbrev pub fault_number : UnpackFault → Option ℕ
fault_number (InFile k) = Some (number_of k)
fault_number BadRecord = Some (number_of kind.BadRecord)
fault_number other = None

abbrev pub fault_name : UnpackFault → List ℕ
fault_name (InFile k) = name_of k
fault_name BadRecord = name_of kind.BadRecord
fault_name Mixed = codes "Mixed"
fault_name (BadBlock fault) = codes "BadBlock"
fault_name Hole = codes "Hole"

abbrev pub damage_members : UnpackDamage → List Member
damage_members d = (codes "offset", natural d.offset) ∷ (codes "kind", or_null natural (fault_number d.fault)) ∷ (codes "name", string (fault_name d.fault)) ∷ []

abbrev pub damage_data : UnpackDamage → Data
damage_data d = object_of (damage_members d)

-- how much of a file can be read, also after damage
abbrev pub readable_members : Readable → List Member
readable_members r = (codes "records", natural r.records) ∷ (codes "samples", natural r.samples) ∷ (codes "places", natural r.places) ∷ (codes "passed", natural r.passed) ∷ []

abbrev pub readable_data : Readable → Data
readable_data r = object_of (readable_members r)

-- bytes of a file that cannot be read
abbrev pub unread_members : Unread → List Member
unread_members u = (codes "offset", natural u.offset) ∷ (codes "bytes", natural u.bytes) ∷ []

abbrev pub unread_data : Unread → Data
unread_data u = object_of (unread_members u)

-- which file it is
abbrev pub file_word : Bool → List ℕ
file_word true = codes "checkpoint"
file_word false = codes "segment"

abbrev pub name_members : Bool → ℕ → List Member
name_members in_checkpoint n = (codes "file", string (file_word in_checkpoint)) ∷ (codes "number", natural n) ∷ []

-- the figures of a file up to its first damage, that damage, and how much of it can be read
abbrev pub survey_members : Survey → List Member
survey_members s =
    count_members s.series s.samples s.stones
    ++ ((codes "skipped", array_of skipped_data s.skipped.items) ∷ (time_members s.times ++ ((codes "damage", or_null damage_data s.damage) ∷ (codes "readable", readable_data s.readable) ∷ [])))

abbrev pub file_members : FileSurvey → List Member
file_members f = name_members f.in_checkpoint f.number ++ (size_members f.bytes f.pages ++ (survey_members f.survey ++ ((codes "unread", array_of unread_data f.unread.items) ∷ [])))

abbrev pub file_data : FileSurvey → Data
file_data f = object_of (file_members f)

-- the figures of all files together
abbrev pub sums_members : LogSums → List Member
sums_members s =
    (codes "files", natural s.files)
    ∷ (size_members s.bytes s.pages ++ (count_members s.series s.samples s.stones ++ ((codes "skipped", natural s.skipped) ∷ time_members s.times)))

-- the document of files with these sums, and of notes
abbrev pub document_members : List FileSurvey → LogSums → List (List ℕ) → List Member
document_members files sums notes = (codes "files", array_of file_data files) ∷ (codes "all", object_of (sums_members sums)) ∷ (codes "notes", array_of string notes) ∷ []

abbrev pub newline : ℕ
newline = 10

-- The text is the document of the figures of an inspection, on one line, with a note for each remark.
pub record IsDocument (i : Inspection) (remarks : List Remark) (text : List ℕ) : Type 0 where
  pub sums : LogSums
  pub are_sums : AreSumsOf i.files.items sums
  pub notes : List (List ℕ)
  pub a_note_each : length notes ≡ length remarks
  pub text_is : text ≡ compact_text (object_of (document_members i.files.items sums notes)) ++ newline ∷ []

-- The text is the document of an inspection of the log in the directory with the least valid time m, and of the remarks that hold of it.
pub record IsDocumentIn (view : View) (dir : List ℕ) (m : ℤ) (text : List ℕ) : Type 0 where
  pub inspection : Inspection
  pub inspected : IsInspectionIn view dir m inspection
  pub remarks : List Remark
  pub hold : (r : Remark) → Contains remarks r ↔ Holds inspection r
  pub document : IsDocument inspection remarks text
