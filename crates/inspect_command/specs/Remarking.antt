-- The remark on a file or on a log, and the list of all: words of private functions, which no public contract cites.
use Rattle.std.specs.Prelude.{◌==◌, ◌+◌, ◌-◌, ◌^◌, ◌&&◌, ◌++◌, not, nat_lt, length, if◌then◌else◌, ℕ, Bool, List, [], ◌∷◌, Option, None, Some, slice_get}
use Rattle.std.specs.Option.{option_map}
use Rattle.wal_log.specs.Inputs.{following}
use Rattle.wal_unpack.specs.declared.fault.UnpackDamage.{UnpackDamage}
use Rattle.wal_survey.specs.declared.references.Unbound.{Unbound as ReferencesUnbound}
use Rattle.inspect_files.specs.declared.files.FileSurvey.{FileSurvey}
use Rattle.inspect_files.specs.declared.inspection.Inspection.{Inspection}
use Rattle.inspect_command.specs.declared.remarks.FileDamage.{FileDamage}
use Rattle.inspect_command.specs.declared.remarks.Remark.{Remark}
use Rattle.inspect_command.specs.declared.remarks.Remark.TheVariants.{Damaged, Empty, EmptyCheckpoint, Gap, NoLog, NoneBehind, PassedOver, SameNumber, SegmentsMissing, TornEnd, UnboundReferences, Unread, Zeros}
use Rattle.inspect_command.specs.Remarks.{are_read, file_of, first_segment, has_checkpoint_file, is_torn, next_number}

-- the remark on what of a file cannot be read, if there is something
abbrev pub unread_remark : FileSurvey → Option Remark
unread_remark f = option_map (λ unread. Unread (file_of f) unread) (slice_get f.unread.items 0)

-- the damage of a file, and how much of the file can be read
abbrev pub damage_of : FileSurvey → UnpackDamage → FileDamage
damage_of f damage = record { file = file_of f; damage = damage; readable = f.survey.readable }

-- the remark on damage of a file, which is the last one or not
abbrev pub damage_remark : FileSurvey → UnpackDamage → Bool → Remark
damage_remark f damage last = if last && is_torn damage.fault then TornEnd (damage_of f damage) else Damaged (damage_of f damage)

-- the remark on a file of no bytes, and on one without damage, after which come these files
abbrev pub empty_remark : FileSurvey → List FileSurvey → Option Remark
empty_remark f later = if f.in_checkpoint && has_checkpoint_file later then Some (Empty (file_of f)) else None

abbrev pub blank_remark : FileSurvey → List FileSurvey → Option Remark
blank_remark f later = if f.bytes == 0 then empty_remark f later else if f.is_zeros && not (length later == 0) then Some (Zeros (file_of f)) else None

abbrev pub remark_by : Option UnpackDamage → FileSurvey → List FileSurvey → Option Remark
remark_by (Some damage) f later = Some (damage_remark f damage (length later == 0))
remark_by None f later = if length f.unread.items == 0 then blank_remark f later else None

-- the remark on what is found in a file
abbrev pub found_remark : FileSurvey → List FileSurvey → Option Remark
found_remark f later = remark_by f.survey.damage f later

-- the remark on numbers that are missing between a file and the next one of its kind
abbrev pub gap_remark : Bool → ℕ → ℕ → Option Remark
gap_remark in_checkpoint number next = if nat_lt (number + 1) next then Some (Gap (number + 1) (next - 1) in_checkpoint) else None

-- the remark on the number of the next file of a file's kind, if there is one
abbrev pub behind_remark : FileSurvey → Option ℕ → Option Remark
behind_remark f None = None
behind_remark f (Some next) = if f.number == next then Some (SameNumber (file_of f)) else gap_remark f.in_checkpoint f.number next

abbrev pub number_remark : FileSurvey → List FileSurvey → Option Remark
number_remark f later = behind_remark f (next_number f.in_checkpoint later)

-- the remark on the first segment, if there is one, of a log whose first one is to have this number, or may have any
abbrev pub first_remark : ℕ → Bool → Option ℕ → Option Remark
first_remark from any None = if nat_lt from (2 ^ 64) then Some (NoneBehind from) else None
first_remark from any (Some first) = if not any && nat_lt from first then Some (SegmentsMissing from first) else None

abbrev pub remark_on : List FileSurvey → Option ℕ → Bool → Bool → Option Remark
remark_on [] checkpoint has_wal is_wbl = Some (NoLog has_wal)
remark_on (f ∷ more) checkpoint has_wal is_wbl = first_remark (following checkpoint) is_wbl (first_segment (f ∷ more))

-- the remark on the checkpoint's directory
abbrev pub checkpoint_remark : Option ℕ → List FileSurvey → Option Remark
checkpoint_remark None files = None
checkpoint_remark (Some checkpoint) files = if has_checkpoint_file files then None else Some (EmptyCheckpoint checkpoint)

-- the remark on segments that are not past the checkpoint
abbrev pub passed_remark : ℕ → Option Remark
passed_remark segments = if segments == 0 then None else Some (PassedOver segments)

-- the remark on references that are not bound, in these files, if they are to be bound there and not in another directory
abbrev pub unbound_remark : ReferencesUnbound → Bool → List FileSurvey → Option Remark
unbound_remark unbound elsewhere files = if elsewhere then None else option_map (λ first. UnboundReferences unbound.references first (are_read files)) unbound.first

-- the remark on the files of a log as a whole
abbrev pub log_remark : Inspection → Option Remark
log_remark i = remark_on i.files.items i.checkpoint i.has_wal i.is_wbl

-- the remark, if there is one
abbrev pub some_of : Option Remark → List Remark
some_of None = []
some_of (Some r) = r ∷ []

-- the remarks on a file, and on these files
abbrev pub own_remarks : FileSurvey → List FileSurvey → List Remark
own_remarks f later = some_of (unread_remark f) ++ (some_of (found_remark f later) ++ some_of (number_remark f later))

abbrev pub file_remarks : List FileSurvey → List Remark
file_remarks [] = []
file_remarks (f ∷ later) = own_remarks f later ++ file_remarks later
