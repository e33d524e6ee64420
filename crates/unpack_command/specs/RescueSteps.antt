-- The steps in which all that can be read of a log is written. Only private functions and proofs cite this file.
use Rattle.std.specs.Prelude.{◌≡◌, ◌⊎◌, ℕ, false, true, List, ◌∷◌, ◌++◌, [], Option, None, Some, map}
use Rattle.std.specs.Option.{option_map}
use Rattle.wal_log.specs.declared.input.Checkpoint.{Checkpoint}
use Rattle.wal_log.specs.declared.input.Segment.{Segment}
use Rattle.store.specs.Calls.{Call, CreateDir}
use Rattle.store.specs.Found.{Found}
use Rattle.store.specs.Views.{View}
use Rattle.new_files.specs.Folders.{create_dirs, files_calls}
use Rattle.new_files.specs.Orders.{DidAll, DidFirst}
use Rattle.log_directory.specs.declared.lost.Lost.{Lost}
use Rattle.unpack_command.specs.declared.lost_report.Report.{Report}
use Rattle.unpack_command.specs.declared.rescue_writing.SlotCheckpoint.{SlotCheckpoint}
use Rattle.unpack_command.specs.declared.rescue_writing.SlotFiles.{SlotFiles}
use Rattle.unpack_command.specs.declared.rescue_writing.SlotLog.{SlotLog}
use Rattle.unpack_command.specs.Folders.{checkpoint_files, files_in, log_files}
use Rattle.unpack_command.specs.Since.{seen_since}
use Rattle.unpack_command.specs.Reports.{Tells}
use Rattle.log_directory.specs.Rescued.{AreRescuedIn}
use Rattle.unpack_command.specs.Rescues.{RescueEnding, WritesRescued}
use Rattle.log_directory.specs.Slots.{slot_value}

-- the checkpoint of these slots, with these files
abbrev pub with_slot_files : Option SlotCheckpoint → List Segment → Option Checkpoint
with_slot_files checkpoint files = option_map (λ (c : SlotCheckpoint). record { number = c.number; files = files }) checkpoint

-- the written files of slots, and what is lost of them
abbrev pub AreRescuedOf : View → SlotFiles → List Segment → List Lost → Type 0
AreRescuedOf view slots files lost = AreRescuedIn view slots.dir.now slots.in_checkpoint (map slot_value slots.slots.now) files lost

-- those of the slots of a checkpoint, if there is one
abbrev pub IsInnerRescued : View → Option SlotCheckpoint → List Segment → List Lost → Type 0
IsInnerRescued view None files lost = lost ≡ []
IsInnerRescued view (Some c) files lost = AreRescuedIn view c.dir.now true (map slot_value c.slots.now) files lost

-- The written files of the slots of a log, and what is lost of them.
pub record AreRescuedFrom (view : View) (log : SlotLog) (inner segments : List Segment) (lost : List Lost) : Type 0 where
  pub first : List Lost
  pub later : List Lost
  pub lost_is : lost ≡ first ++ later
  pub inner_are : IsInnerRescued view log.checkpoint inner first
  pub segments_are : AreRescuedIn view log.dir.now false (map slot_value log.slots.now) segments later

-- a log of slots, written with this lost
abbrev pub IsRescuedFrom : View → SlotLog → Option Checkpoint → List Segment → List Lost → Type 0
IsRescuedFrom view log checkpoint segments lost = (inner : List Segment) × (checkpoint ≡ with_slot_files log.checkpoint inner) × AreRescuedFrom view log inner segments lost

module _ {S : Type 0} (did : S → List Call → S → Type 0) where
  module _ (holds : S → List ℕ → Found → Type 0) (old : S) where
    -- the files of slots were written into a folder, and what is lost of them was reported
    abbrev pub RescuesFiles : SlotFiles → List ℕ → Report → Report → S → Type 0
    RescuesFiles slots folder before after new = (files : List Segment) × (lost : List Lost) × AreRescuedOf (seen_since did holds old) slots files lost × Tells lost before after
        × DidAll did old (files_calls (files_in folder files)) new

    -- those of the slots of a checkpoint, into its directory in a folder
    abbrev pub RescuesCheckpoint : Option SlotCheckpoint → List ℕ → Report → Report → S → Type 0
    RescuesCheckpoint slots folder before after new = (files : List Segment) × (lost : List Lost) × IsInnerRescued (seen_since did holds old) slots files lost × Tells lost before after
        × DidAll did old (files_calls (checkpoint_files folder (with_slot_files slots files))) new

    -- a folder was begun with these directories, and the files of a log of slots were written into it
    abbrev pub RescuesAll : SlotLog → List ℕ → List (List ℕ) → Report → Report → S → Type 0
    RescuesAll log folder dirs before after new = (inner : List Segment) × (segments : List Segment) × (lost : List Lost) × AreRescuedFrom (seen_since did holds old) log inner segments lost × Tells lost before after
        × DidAll did old ((CreateDir folder ∷ create_dirs dirs) ++ files_calls (log_files folder (with_slot_files log.checkpoint inner) segments)) new

  module _ (old : S) where
    -- the first calls of the files of a checkpoint were made
    abbrev pub BeginsSlotCheckpoint : Option SlotCheckpoint → List ℕ → S → Type 0
    BeginsSlotCheckpoint slots folder new = (files : List Segment) × DidFirst did old (files_calls (checkpoint_files folder (with_slot_files slots files))) new

    -- the first calls of a folder with these directories and with the files of a log were made
    abbrev pub BeginsSlotLog : SlotLog → List ℕ → List (List ℕ) → S → Type 0
    BeginsSlotLog log folder dirs new = (inner : List Segment) × (segments : List Segment)
        × DidFirst did old ((CreateDir folder ∷ create_dirs dirs) ++ files_calls (log_files folder (with_slot_files log.checkpoint inner) segments)) new

    -- nothing was done and nothing told, or a log was written or given up
    abbrev pub RescuesInto : List ℕ → (Option Checkpoint → List Segment → List Lost → Type 0) → RescueEnding → S → Type 0
    RescuesInto path IsLog end new = ((new ≡ old) × (end.told → ⊥) × (end.well → ⊥)) ⊎ WritesRescued did old path IsLog end new
