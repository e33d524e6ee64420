-- The folder of an unpacked log: how far it was begun, and what was left of it.
use Rattle.std.specs.Prelude.{◌≡◌, ℕ, true, false, List, [], ◌∷◌, ◌++◌, Option, None, Some, is_some, Ok, Err, IsOk, refl}
use Rattle.std.proofs.Common.{ap, subst, sym}
use Rattle.std.proofs.lemmas.Bool.{false≢true}
use Rattle.wal_log.specs.declared.input.Checkpoint.{Checkpoint}
use Rattle.wal_log.specs.declared.input.Segment.{Segment}
use Rattle.wal_log.specs.Plan.{NumberedName}
use Rattle.store.specs.Calls.{Call, CreateDir}
use Rattle.store.specs.Views.{View}
use Rattle.store.specs.Disk.{is_in}
use Rattle.new_files.specs.Folders.{create_dirs, files_calls}
use Rattle.new_files.specs.Orders.{DidAll, DidFirst}
use Rattle.new_files.specs.Targets.{unfinished_of}
use Rattle.new_files.proofs.FolderSafe.{finishing, is_safe, left_unfinished, not_ended, then_finished}
use Rattle.new_files.proofs.Orders.{all_both, first_behind, first_of_more}
use Rattle.new_files.proofs.Paths.{unfinished_longer}
use Rattle.new_files.proofs.Safety.{for_less}
use Rattle.unpack_command.specs.declared.planned.PlannedCheckpoint.{PlannedCheckpoint}
use Rattle.log_directory.specs.declared.unpacking.FileDamage.{FileDamage}
use Rattle.unpack_command.specs.Folders.{GivesUpLog, LeavesLog, LeavesOldOrLog, WritesLog, checkpoint_files, files_in, log_dirs, log_files}
use Rattle.log_directory.specs.Unpacked.{AreUnpackedBehind, AreUnpackedIn}
use Rattle.unpack_command.specs.declared.rescue_writing.SlotCheckpoint.{SlotCheckpoint}
use Rattle.unpack_command.specs.RescueSteps.{with_slot_files}
use Rattle.unpack_command.specs.Steps.{with_files}
use Rattle.unpack_command.proofs.Inside.{log_inside}
use Rattle.unpack_command.proofs.Made.{calls_then}

-- ---- the segments after a checkpoint

module _ (view : View) (dir : List ℕ) (plan : List NumberedName) where
  pub behind_damage : (first : Option FileDamage) → is_some first ≡ true → AreUnpackedBehind view dir first plan [] first
  behind_damage None some = absurd (false≢true some)
  behind_damage (Some bad) some = (refl, refl)

  pub behind_whole : (first : Option FileDamage) (segments : List Segment) (damage : Option FileDamage) → is_some first ≡ false → AreUnpackedIn view dir false plan segments damage → AreUnpackedBehind view dir first plan segments damage
  behind_whole None segments damage none are = are
  behind_whole (Some bad) segments damage none are = absurd (false≢true (sym none))

-- ---- the calls of a log

module _ {S : Type 0} (did : S → List Call → S → Type 0) (both : (old middle new : S) (first second : List Call) → did old first middle → did middle second new → did old (first ++ second) new)
    (folder : List ℕ) (dirs : List (List ℕ)) (checkpoint : Option Checkpoint) (segments : List Segment) (old begun : S) (all : DidAll did old (CreateDir folder ∷ create_dirs dirs) begun) where
  abbrev inner_calls : List Call
  inner_calls = files_calls (checkpoint_files folder checkpoint)

  abbrev later_calls : List Call
  later_calls = files_calls (files_in folder segments)

  abbrev front : List Call
  front = CreateDir folder ∷ create_dirs dirs

  in_order : front ++ (inner_calls ++ later_calls) ≡ front ++ files_calls (log_files folder checkpoint segments)
  in_order = ap (λ (calls : List Call). front ++ calls) (sym (calls_then (checkpoint_files folder checkpoint) (files_in folder segments)))

  -- the files of the checkpoint were begun
  pub begun_inner : (new : S) → DidFirst did begun inner_calls new → DidFirst did old (front ++ files_calls (log_files folder checkpoint segments)) new
  begun_inner new first = subst (λ (calls : List Call). DidFirst did old calls new) in_order (first_behind did both old begun new front (inner_calls ++ later_calls) all (first_of_more did begun new inner_calls later_calls first))

  module _ (filled new : S) (inner : DidAll did begun inner_calls filled) where
    -- they were written, and the segments were begun
    pub begun_later : DidFirst did filled later_calls new → DidFirst did old (front ++ files_calls (log_files folder checkpoint segments)) new
    begun_later first = subst (λ (calls : List Call). DidFirst did old calls new) in_order (first_behind did both old begun new front (inner_calls ++ later_calls) all (first_behind did both begun filled new inner_calls later_calls inner first))

    -- all of them were written
    pub all_written : DidAll did filled later_calls new → DidAll did old (front ++ files_calls (log_files folder checkpoint segments)) new
    all_written later = subst (λ (calls : List Call). DidAll did old calls new) in_order (all_both did both old begun new front (inner_calls ++ later_calls) all (all_both did both begun filled new inner_calls later_calls inner later))

-- ---- what is left of it

pub same_dirs : (folder : List ℕ) (planned : Option PlannedCheckpoint) (inner : List Segment) → log_dirs folder (with_files planned []) ≡ log_dirs folder (with_files planned inner)
same_dirs folder None inner = refl
same_dirs folder (Some c) inner = refl

-- the directories don't depend on the files of the slots of a checkpoint
pub same_slot_dirs : (folder : List ℕ) (slots : Option SlotCheckpoint) (inner : List Segment) → log_dirs folder (with_slot_files slots []) ≡ log_dirs folder (with_slot_files slots inner)
same_slot_dirs folder None inner = refl
same_slot_dirs folder (Some c) inner = refl

module _ {S : Type 0} (did : S → List Call → S → Type 0) (old : S) (path folder : List ℕ) (dirs : List (List ℕ)) (log : Option Checkpoint) (segments : List Segment) (is : folder ≡ unfinished_of path) (are : dirs ≡ log_dirs folder log) where
  abbrev unfinished : List ℕ
  unfinished = unfinished_of path

  at_unfinished : (P : List ℕ → List (List ℕ) → Type 0) → P folder dirs → P unfinished (log_dirs unfinished log)
  at_unfinished P has = subst (λ f. P f (log_dirs f log)) is (subst (λ ds. P folder ds) are has)

  -- it was begun and given up
  pub given_up : (new : S) → DidFirst did old ((CreateDir folder ∷ create_dirs dirs) ++ files_calls (log_files folder log segments)) new → GivesUpLog did old path new
  given_up new first = (
    log,
    segments,
    left_unfinished did path path unfinished (log_dirs unfinished log) (log_files unfinished log segments) old new (unfinished_longer path) (log_inside unfinished log segments)
        (at_unfinished (λ f ds. DidFirst did old ((CreateDir f ∷ create_dirs ds) ++ files_calls (log_files f log segments)) new) first),
  )

  module _ (both : (old middle new : S) (first second : List Call) → did old first middle → did middle second new → did old (first ++ second) new) (filled new : S)
      (begun : DidAll did old ((CreateDir folder ∷ create_dirs dirs) ++ files_calls (log_files folder log segments)) filled) (parent : List ℕ) (inside : is_in parent path ≡ true) where
    begun_there : DidAll did old ((CreateDir unfinished ∷ create_dirs (log_dirs unfinished log)) ++ files_calls (log_files unfinished log segments)) filled
    begun_there = at_unfinished (λ f ds. DidAll did old ((CreateDir f ∷ create_dirs ds) ++ files_calls (log_files f log segments)) filled) begun

    -- it was finished
    pub finished : (W : Type 0) → DidAll did filled (finishing parent path folder dirs) new → WritesLog did old path log segments W new
    finished W all =
        for_less did old (LeavesOldOrLog path log segments) (LeavesLog path log segments) new W (IsOk {T = Unit {0}} {E = Unit {0}} (Ok tt)) (λ went. refl)
        (is_safe {T = Unit {0}} {E = Unit {0}} did old parent path unfinished (log_dirs unfinished log) (log_files unfinished log segments) (Ok tt) new (unfinished_longer path) inside (log_inside unfinished log segments)
        (then_finished did parent path unfinished (log_dirs unfinished log) (log_files unfinished log segments) both {T = Unit {0}} {E = Unit {0}} old filled new (Ok tt) begun_there
        (at_unfinished (λ f ds. DidAll did filled (finishing parent path f ds) new) all)))

    -- a call failed where it was to be finished
    pub not_finished : DidFirst did filled (finishing parent path folder dirs) new → WritesLog did old path log segments ⊥ new
    not_finished first =
        not_ended did old parent path unfinished (log_dirs unfinished log) (log_files unfinished log segments) ⊥ new (λ went. went) (unfinished_longer path) (log_inside unfinished log segments)
        (then_finished did parent path unfinished (log_dirs unfinished log) (log_files unfinished log segments) both {T = Unit {0}} {E = Unit {0}} old filled new (Err tt) begun_there
        (at_unfinished (λ f ds. DidFirst did filled (finishing parent path f ds) new) first))
