-- The steps in which a log is unpacked. Only private functions and proofs cite this file.
use Rattle.std.specs.Prelude.{◌≡◌, ◌⊎◌, ℕ, Bool, false, true, List, ◌∷◌, ◌++◌, Option, None, Some, map}
use Rattle.std.specs.Option.{option_map}
use Rattle.wal_log.specs.declared.input.Checkpoint.{Checkpoint}
use Rattle.wal_log.specs.declared.input.Segment.{Segment}
use Rattle.wal_log.specs.Plan.{named as name_of}
use Rattle.store.specs.Calls.{Call, CreateDir}
use Rattle.store.specs.Found.{Found}
use Rattle.store.specs.Views.{View}
use Rattle.new_files.specs.Folders.{create_dirs, files_calls}
use Rattle.new_files.specs.Orders.{DidAll, DidFirst}
use Rattle.unpack_command.specs.declared.planned.PlannedCheckpoint.{PlannedCheckpoint}
use Rattle.unpack_command.specs.declared.planned.PlannedFiles.{PlannedFiles}
use Rattle.unpack_command.specs.declared.planned.PlannedLog.{PlannedLog}
use Rattle.log_directory.specs.declared.unpacking.FileDamage.{FileDamage}
use Rattle.unpack_command.specs.Folders.{DoesNothing, Ending, WritesUnpacked, checkpoint_files, files_in, log_files}
use Rattle.log_directory.specs.Unpacked.{AreUnpackedBehind, AreUnpackedIn}
use Rattle.unpack_command.specs.Since.{seen_since}

-- a planned checkpoint with these files
abbrev pub with_files : Option PlannedCheckpoint → List Segment → Option Checkpoint
with_files checkpoint files = option_map (λ (c : PlannedCheckpoint). record { number = c.number; files = files }) checkpoint

-- the files of a planned checkpoint, unpacked up to this damage
abbrev pub AreUnpackedOf : View → Option PlannedCheckpoint → List Segment → Option FileDamage → Type 0
AreUnpackedOf view None files damage = damage ≡ None
AreUnpackedOf view (Some c) files damage = AreUnpackedIn view c.dir.now true (map name_of c.names.now) files damage

-- The files of a planned log, unpacked up to this damage.
pub record AreUnpackedFrom (view : View) (log : PlannedLog) (inner segments : List Segment) (damage : Option FileDamage) : Type 0 where
  pub first : Option FileDamage
  pub inner_are : AreUnpackedOf view log.checkpoint inner first
  pub segments_are : AreUnpackedBehind view log.dir.now first (map name_of log.segments.now) segments damage

-- a planned log, unpacked up to this damage
abbrev pub IsUnpackedFrom : View → PlannedLog → Option Checkpoint → List Segment → Option FileDamage → Type 0
IsUnpackedFrom view log checkpoint segments damage = (inner : List Segment) × (checkpoint ≡ with_files log.checkpoint inner) × AreUnpackedFrom view log inner segments damage

module _ {S : Type 0} (did : S → List Call → S → Type 0) where
  module _ (holds : S → List ℕ → Found → Type 0) (old : S) where
    -- planned files were unpacked into a folder
    abbrev pub UnpacksFiles : PlannedFiles → List ℕ → Bool → Option FileDamage → S → Type 0
    UnpacksFiles planned folder through_damage damage new = (files : List Segment) × AreUnpackedIn (seen_since did holds old) planned.dir.now planned.in_checkpoint (map name_of planned.names.now) files damage
        × (through_damage ≡ false → damage ≡ None) × DidAll did old (files_calls (files_in folder files)) new

    -- the files of a planned checkpoint were unpacked into the directory of it in a folder
    abbrev pub UnpacksCheckpoint : Option PlannedCheckpoint → List ℕ → Bool → Option FileDamage → S → Type 0
    UnpacksCheckpoint planned folder through_damage damage new = (files : List Segment) × AreUnpackedOf (seen_since did holds old) planned files damage
        × (through_damage ≡ false → damage ≡ None) × DidAll did old (files_calls (checkpoint_files folder (with_files planned files))) new

    -- a folder was begun with these directories, and the files of a planned log were unpacked into it
    abbrev pub FillsLog : PlannedLog → List ℕ → List (List ℕ) → Bool → Option FileDamage → S → Type 0
    FillsLog planned folder dirs through_damage damage new = (inner : List Segment) × (segments : List Segment) × AreUnpackedFrom (seen_since did holds old) planned inner segments damage
        × (through_damage ≡ false → damage ≡ None) × DidAll did old ((CreateDir folder ∷ create_dirs dirs) ++ files_calls (log_files folder (with_files planned.checkpoint inner) segments)) new

  module _ (old : S) where
    -- the first calls of files in a folder were made
    abbrev pub BeginsFiles : List ℕ → S → Type 0
    BeginsFiles folder new = (files : List Segment) × DidFirst did old (files_calls (files_in folder files)) new

    -- the first calls of the files of a checkpoint were made
    abbrev pub BeginsCheckpoint : Option PlannedCheckpoint → List ℕ → S → Type 0
    BeginsCheckpoint planned folder new = (files : List Segment) × DidFirst did old (files_calls (checkpoint_files folder (with_files planned files))) new

    -- the first calls of a folder with these directories and with the files of a log were made
    abbrev pub BeginsLog : PlannedLog → List ℕ → List (List ℕ) → S → Type 0
    BeginsLog planned folder dirs new = (inner : List Segment) × (segments : List Segment)
        × DidFirst did old ((CreateDir folder ∷ create_dirs dirs) ++ files_calls (log_files folder (with_files planned.checkpoint inner) segments)) new

    -- nothing was done, or a log was written or given up
    abbrev pub UnpacksInto : List ℕ → (Option Checkpoint → List Segment → Option FileDamage → Type 0) → Bool → Ending → S → Type 0
    UnpacksInto path IsLog through_damage end new = DoesNothing old IsLog end new ⊎ WritesUnpacked did old path IsLog through_damage end new
