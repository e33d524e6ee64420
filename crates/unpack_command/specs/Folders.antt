-- The folder of an unpacked log, and what a crash leaves where it is written.
use Rattle.std.specs.Prelude.{◌≡◌, ◌⊎◌, ℕ, Bool, true, false, List, [], ◌∷◌, ◌++◌, Option, None, Some, codes, map}
use Rattle.std.specs.Path.{path_file_name, path_join, path_parent}
use Rattle.wal_log.specs.declared.input.Checkpoint.{Checkpoint}
use Rattle.wal_log.specs.declared.input.Segment.{Segment}
use Rattle.wal_log.specs.Names.{checkpoint_number, number_of}
use Rattle.store.specs.Calls.{Call}
use Rattle.store.specs.Found.{Found}
use Rattle.store.specs.Disk.{File, Standing}
use Rattle.answers.specs.declared.requests.UnpackRequest.{UnpackRequest}
use Rattle.new_files.specs.Crashes.{IsCrashSafe}
use Rattle.new_files.specs.Folders.{FileAt, LeavesFolder, LeavesOld, LeavesOldOrFolder}
use Rattle.new_files.specs.Targets.{unfinished_of, zero_filled}
use Rattle.answers.specs.declared.fault.Status.TheVariants.{Damaged, Done}
use Rattle.answers.specs.declared.answer.Answer.{Answer}
use Rattle.log_directory.specs.declared.unpacking.FileDamage.{FileDamage}
use Rattle.log_directory.specs.Unpacked.{IsUnpackedLogIn}
use Rattle.unpack_command.specs.Since.{seen_since}
use Rattle.unpack_command.specs.Told.{TellsUnpacked}

-- files in a folder, each under its number
abbrev pub files_in : List ℕ → List Segment → List FileAt
files_in folder segments = map (λ (s : Segment). record { path = path_join folder (zero_filled 8 s.number); bytes = s.bytes }) segments

-- the name of the checkpoint of this number
abbrev pub checkpoint_name : ℕ → List ℕ
checkpoint_name number = codes "checkpoint." ++ zero_filled 8 number

-- the path of the checkpoint of this number in a folder
abbrev pub checkpoint_in : List ℕ → ℕ → List ℕ
checkpoint_in folder number = path_join folder (checkpoint_name number)

-- the directories in the folder of a log: that of its checkpoint, if there is one
abbrev pub log_dirs : List ℕ → Option Checkpoint → List (List ℕ)
log_dirs folder None = []
log_dirs folder (Some c) = checkpoint_in folder c.number ∷ []

-- the files of the checkpoint in the folder of a log, if there is one
abbrev pub checkpoint_files : List ℕ → Option Checkpoint → List FileAt
checkpoint_files folder None = []
checkpoint_files folder (Some c) = files_in (checkpoint_in folder c.number) c.files

-- the files in the folder of a log: those of its checkpoint, then its segments
abbrev pub log_files : List ℕ → Option Checkpoint → List Segment → List FileAt
log_files folder checkpoint segments = checkpoint_files folder checkpoint ++ files_in folder segments

-- The name is not that of a segment or of a checkpoint.
pub record IsNoLogName (name : List ℕ) : Type 0 where
  pub no_segment : number_of name ≡ None
  pub no_checkpoint : checkpoint_number name ≡ None

-- The path is that of a name in a directory, as it was typed, which is empty for a name alone. A log has no file or directory of this name.
pub record IsOut (out path : List ℕ) : Type 0 where
  pub parent : List ℕ
  pub name : List ℕ
  pub parent_is : path_parent out ≡ Some parent
  pub name_is : path_file_name out ≡ Some name
  pub path_is : path ≡ path_join parent name
  pub no_log_name : IsNoLogName name

-- At the path is what was there, or a folder with this log; and all else as before, but for the unfinished folder.
abbrev pub LeavesOldOrLog : List ℕ → Option Checkpoint → List Segment → Standing → (List ℕ → Option File) → Standing → Type 0
LeavesOldOrLog path checkpoint segments =
    let folder = unfinished_of path in
    LeavesOldOrFolder path folder (log_dirs folder checkpoint) (log_files folder checkpoint segments)

-- At the path is a folder with this log.
abbrev pub LeavesLog : List ℕ → Option Checkpoint → List Segment → Standing → (List ℕ → Option File) → Standing → Type 0
LeavesLog path checkpoint segments =
    let folder = unfinished_of path in
    LeavesFolder path folder (log_dirs folder checkpoint) (log_files folder checkpoint segments)

-- At the path is what was there; and all else as before, but for the unfinished folder and what is in it.
abbrev pub LeavesOldBesideLog : List ℕ → Option Checkpoint → List Segment → Standing → (List ℕ → Option File) → Standing → Type 0
LeavesOldBesideLog path checkpoint segments =
    let folder = unfinished_of path in
    LeavesOld path folder (log_dirs folder checkpoint) (log_files folder checkpoint segments)

-- A log was written into a new folder at the path.
abbrev pub WritesLog : {S : Type 0} → (S → List Call → S → Type 0) → S → List ℕ → Option Checkpoint → List Segment → Type 0 → S → Type 0
WritesLog did old path checkpoint segments = IsCrashSafe did old (LeavesOldOrLog path checkpoint segments) (LeavesLog path checkpoint segments)

-- A log was begun in the unfinished folder of the path, which did not become the folder at the path.
abbrev pub GivesUpLog : {S : Type 0} → (S → List Call → S → Type 0) → S → List ℕ → S → Type 0
GivesUpLog did old path new = (checkpoint : Option Checkpoint) × (segments : List Segment) × IsCrashSafe did old (LeavesOldBesideLog path checkpoint segments) (LeavesOldBesideLog path checkpoint segments) ⊥ new

-- How a run of `unpack` ends: what it tells of the damage up to which a log was unpacked, whether it tells of one at all, and whether it went
-- well.
pub record Ending : Type 1 where
  pub tells : Option FileDamage → Type 0
  pub told : Type 0
  pub well : Type 0

-- A run that failed.
abbrev pub failing : Ending
failing = record { tells = λ damage. Unit {0}; told = ⊥; well = ⊥ }

-- A run with this answer. Unless it reports a fault, it tells of the log. It went well if the status is Done, or Damaged where what is before
-- the damage is wanted.
abbrev pub ending_of : Bool → Answer → Ending
ending_of through_damage answer = record {
  tells = λ damage. answer.fault ≡ None → TellsUnpacked damage answer;
  told = answer.fault ≡ None;
  well = (answer.fault ≡ None) × ((answer.status ≡ Done) ⊎ ((answer.status ≡ Damaged) × (through_damage ≡ true)));
}

-- A whole log, as it was unpacked up to this damage, was written into a new folder at the path. There is no damage if nothing is to be
-- written of a damaged log. Or the log was given up, and not all went well.
abbrev pub WritesUnpacked : {S : Type 0} → (S → List Call → S → Type 0) → S → List ℕ → (Option Checkpoint → List Segment → Option FileDamage → Type 0) → Bool → Ending → S → Type 0
WritesUnpacked did old path IsLog through_damage end new =
    ((checkpoint : Option Checkpoint) × (segments : List Segment) × (damage : Option FileDamage) × IsLog checkpoint segments damage
    × end.tells damage × (through_damage ≡ false → damage ≡ None) × WritesLog did old path checkpoint segments end.well new)
    ⊎ (GivesUpLog did old path new × (end.told → ⊥) × (end.well → ⊥))

-- Nothing was done, and not all went well. If the run tells of the log, it is damaged, and this is its damage.
abbrev pub DoesNothing : {S : Type 0} → S → (Option Checkpoint → List Segment → Option FileDamage → Type 0) → Ending → S → Type 0
DoesNothing old IsLog end new =
    (new ≡ old) × (end.well → ⊥)
    × (end.told → (checkpoint : Option Checkpoint) × (segments : List Segment) × (bad : FileDamage) × IsLog checkpoint segments (Some bad) × end.tells (Some bad))

-- The log in the directory was unpacked into a new folder at the path `out`, or was given up, or nothing was done. The names of its files
-- are those of before, and each file is what the store held at some moment of the call.
abbrev pub Unpacks : {S : Type 0} → (S → List Call → S → Type 0) → (S → List ℕ → Found → Type 0) → S → UnpackRequest → Ending → S → Type 0
Unpacks did holds old request end new =
    DoesNothing old (IsUnpackedLogIn (seen_since did holds old) request.dir.now) end new
    ⊎ ((path : List ℕ) × IsOut request.out.now path × WritesUnpacked did old path (IsUnpackedLogIn (seen_since did holds old) request.dir.now) request.through_damage end new)
