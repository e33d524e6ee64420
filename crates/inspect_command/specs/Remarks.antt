-- Which remarks hold of a log.
use Rattle.std.specs.Prelude.{◌≡◌, ◌≢◌, ◌⊎◌, ◌+◌, ◌<◌, ◌≤◌, ◌^◌, ◌&&◌, ◌||◌, ◌++◌, ◌∷◌, ◌==◌, not, ℕ, Bool, true, false, List, [], Option, None, Some, drop, length, slice_get}
use Rattle.std.specs.Bool.{beq}
use Rattle.std.specs.List.{find, list_any}
use Rattle.std.specs.Option.{option_map}
use Rattle.wal_page.specs.declared.fault.FaultKind.TheVariants as kind
use Rattle.wal_log.specs.Inputs.{following}
use Rattle.wal_unpack.specs.declared.fault.UnpackDamage.{UnpackDamage}
use Rattle.wal_unpack.specs.declared.fault.UnpackFault.{UnpackFault}
use Rattle.wal_unpack.specs.declared.fault.UnpackFault.TheVariants.{InFile}
use Rattle.inspect_files.specs.declared.files.FileSurvey.{FileSurvey}
use Rattle.inspect_files.specs.declared.inspection.Inspection.{Inspection}
use Rattle.inspect_command.specs.declared.remarks.FileDamage.{FileDamage}
use Rattle.inspect_command.specs.declared.remarks.NumberedFile.{NumberedFile}
use Rattle.inspect_command.specs.declared.remarks.Remark.{Remark}
use Rattle.inspect_command.specs.declared.remarks.Remark.TheVariants.{Damaged, Empty, EmptyCheckpoint, Gap, NoLog, NoneBehind, PassedOver, SameNumber, SegmentsMissing, TornEnd, UnboundReferences, Unread, Zeros}

-- the file whose survey this is
abbrev pub file_of : FileSurvey → NumberedFile
file_of f = record { in_checkpoint = f.in_checkpoint; number = f.number }

-- the number of the first segment
abbrev pub first_segment : List FileSurvey → Option ℕ
first_segment files = option_map (λ f. f.number) (find (λ f. not f.in_checkpoint) files)

-- whether one of the files is the checkpoint's
abbrev pub has_checkpoint_file : List FileSurvey → Bool
has_checkpoint_file files = list_any (λ f. f.in_checkpoint) files

-- the number of the next of these files that is of the same kind: one of the checkpoint's, or a segment
abbrev pub next_number : Bool → List FileSurvey → Option ℕ
next_number in_checkpoint later = option_map (λ f. f.number) (find (λ f. beq f.in_checkpoint in_checkpoint) later)

abbrev pub is_torn : UnpackFault → Bool
is_torn (InFile kind.Torn) = true
is_torn other = false

-- whether damage, if there is any, of a file that is the last one or not, may hide records: it is no torn end of the log
abbrev pub damage_hides : Option UnpackDamage → Bool → Bool
damage_hides None last = false
damage_hides (Some damage) last = not (last && is_torn damage.fault)

-- whether a file that is the last one or not may have records that were not read: after damage, or in what cannot be read
abbrev pub hides_records : FileSurvey → Bool → Bool
hides_records f last = not (length f.unread.items == 0) || damage_hides f.survey.damage last

-- whether all records of these files were read: none hides one
abbrev pub are_read : List FileSurvey → Bool
are_read [] = true
are_read (f ∷ later) = not (hides_records f (length later == 0)) && are_read later

-- The damage is that of the file.
pub record IsDamageOf (f : FileSurvey) (d : FileDamage) : Type 0 where
  pub file : d.file ≡ file_of f
  pub damage : f.survey.damage ≡ Some d.damage
  pub readable : d.readable ≡ f.survey.readable

-- the remark holds of a file, after which come these files
abbrev pub HoldsOfFile : FileSurvey → List FileSurvey → Remark → Type 0
HoldsOfFile f later (Unread file unread) = (file ≡ file_of f) × (slice_get f.unread.items 0 ≡ Some unread)
HoldsOfFile f later (Empty file) = (file ≡ file_of f) × (f.unread.items ≡ []) × (f.survey.damage ≡ None) × (f.bytes ≡ 0) × (f.in_checkpoint ≡ true) × (has_checkpoint_file later ≡ true)
HoldsOfFile f later (Zeros file) = (file ≡ file_of f) × (f.unread.items ≡ []) × (f.survey.damage ≡ None) × (f.bytes ≢ 0) × (f.is_zeros ≡ true) × (later ≢ [])
HoldsOfFile f later (TornEnd d) = IsDamageOf f d × (d.damage.fault ≡ InFile kind.Torn) × (later ≡ [])
HoldsOfFile f later (Damaged d) = IsDamageOf f d × (d.damage.fault ≡ InFile kind.Torn → later ≢ [])
HoldsOfFile f later (Gap from to in_checkpoint) = (next_number f.in_checkpoint later ≡ Some (to + 1)) × (from ≡ f.number + 1) × (from ≤ to) × (in_checkpoint ≡ f.in_checkpoint)
HoldsOfFile f later (SameNumber file) = (file ≡ file_of f) × (next_number f.in_checkpoint later ≡ Some f.number)
HoldsOfFile f later (NoLog has_wal) = ⊥
HoldsOfFile f later (SegmentsMissing from first) = ⊥
HoldsOfFile f later (NoneBehind next) = ⊥
HoldsOfFile f later (EmptyCheckpoint checkpoint) = ⊥
HoldsOfFile f later (PassedOver segments) = ⊥
HoldsOfFile f later (UnboundReferences references first all_read) = ⊥

-- the remark holds of the log as a whole
abbrev pub HoldsOfLog : Inspection → Remark → Type 0
HoldsOfLog i (NoLog has_wal) = (i.files.items ≡ []) × (has_wal ≡ i.has_wal)
HoldsOfLog i (SegmentsMissing from first) = (first_segment i.files.items ≡ Some first) × (from ≡ following i.checkpoint) × (from < first) × (i.is_wbl ≡ false)
HoldsOfLog i (NoneBehind next) = (i.files.items ≢ []) × (first_segment i.files.items ≡ None) × (next ≡ following i.checkpoint) × (next < 2 ^ 64)
HoldsOfLog i (EmptyCheckpoint checkpoint) = (i.checkpoint ≡ Some checkpoint) × (has_checkpoint_file i.files.items ≡ false)
HoldsOfLog i (PassedOver segments) = (segments ≡ i.passed_over) × (0 < segments)
HoldsOfLog i (UnboundReferences references first all_read) = (references ≡ i.unbound.references) × (i.unbound.first ≡ Some first) × (all_read ≡ are_read i.files.items) × (i.is_wbl ≡ false)
HoldsOfLog i other = ⊥

-- the remark holds of one of the first n files
abbrev pub HoldsBelow : ℕ → List FileSurvey → Remark → Type 0
HoldsBelow n files r = (k : ℕ) × (f : FileSurvey) × (k < n) × (slice_get files k ≡ Some f) × HoldsOfFile f (drop (k + 1) files) r

-- the remark holds of the log as a whole, or of one of its files
abbrev pub Holds : Inspection → Remark → Type 0
Holds i r = HoldsOfLog i r ⊎ HoldsBelow (length i.files.items) i.files.items r

-- ---- the order in which they are told

-- one remark at most, for which P holds
abbrev pub IsAtMostOne : (Remark → Type 0) → List Remark → Type 0
IsAtMostOne P [] = Unit {0}
IsAtMostOne P (r ∷ []) = P r
IsAtMostOne P (r ∷ s ∷ more) = ⊥

-- the remark is on which files there are, on the checkpoint's directory, on segments that are passed over, on references
abbrev pub IsOnFiles : Remark → Type 0
IsOnFiles (NoLog has_wal) = Unit {0}
IsOnFiles (SegmentsMissing from first) = Unit {0}
IsOnFiles (NoneBehind next) = Unit {0}
IsOnFiles other = ⊥

abbrev pub IsOnCheckpoint : Remark → Type 0
IsOnCheckpoint (EmptyCheckpoint checkpoint) = Unit {0}
IsOnCheckpoint other = ⊥

abbrev pub IsOnPassedOver : Remark → Type 0
IsOnPassedOver (PassedOver segments) = Unit {0}
IsOnPassedOver other = ⊥

abbrev pub IsOnReferences : Remark → Type 0
IsOnReferences (UnboundReferences references first all_read) = Unit {0}
IsOnReferences other = ⊥

-- the remark is on what of a file cannot be read, on damage or emptiness, on the number of the next file
abbrev pub IsOnUnread : Remark → Type 0
IsOnUnread (Unread file unread) = Unit {0}
IsOnUnread other = ⊥

abbrev pub IsOnContents : Remark → Type 0
IsOnContents (Empty file) = Unit {0}
IsOnContents (Zeros file) = Unit {0}
IsOnContents (TornEnd d) = Unit {0}
IsOnContents (Damaged d) = Unit {0}
IsOnContents other = ⊥

abbrev pub IsOnNumber : Remark → Type 0
IsOnNumber (Gap from to in_checkpoint) = Unit {0}
IsOnNumber (SameNumber file) = Unit {0}
IsOnNumber other = ⊥

-- the remark holds of a file, after which come these files, and is of this kind
abbrev pub HoldsAndIs : (Remark → Type 0) → FileSurvey → List FileSurvey → Remark → Type 0
HoldsAndIs P f later r = HoldsOfFile f later r × P r

-- on each of these files in turn one remark at most of each of three kinds
abbrev pub AreOnEach : List FileSurvey → List Remark → Type 0
AreOnEach [] told = told ≡ []
AreOnEach (f ∷ later) told = (unread : List Remark) × (found : List Remark) × (behind : List Remark) × (others : List Remark) × (told ≡ unread ++ (found ++ (behind ++ others)))
    × IsAtMostOne (HoldsAndIs IsOnUnread f later) unread × IsAtMostOne (HoldsAndIs IsOnContents f later) found × IsAtMostOne (HoldsAndIs IsOnNumber f later) behind × AreOnEach later others

-- The remarks are in this order, each once.
pub record AreInOrder (files : List FileSurvey) (told : List Remark) : Type 0 where
  pub on_files : List Remark
  pub on_checkpoint : List Remark
  pub on_passed_over : List Remark
  pub on_each : List Remark
  pub on_references : List Remark
  pub all : told ≡ on_files ++ (on_checkpoint ++ (on_passed_over ++ (on_each ++ on_references)))
  pub files_first : IsAtMostOne IsOnFiles on_files
  pub then_checkpoint : IsAtMostOne IsOnCheckpoint on_checkpoint
  pub then_passed_over : IsAtMostOne IsOnPassedOver on_passed_over
  pub then_each : AreOnEach files on_each
  pub references_last : IsAtMostOne IsOnReferences on_references
