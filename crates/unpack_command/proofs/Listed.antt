-- A log of slots, written, is what can be read of a listed one.
use Rattle.std.specs.Prelude.{◌≡◌, ℕ, true, List, Option, None, Some, map}
use Rattle.std.specs.Path.{path_join}
use Rattle.std.proofs.Common.{ap, inl, inr, subst, sym, ◌∙◌}
use Rattle.wal_log.specs.declared.input.Checkpoint.{Checkpoint}
use Rattle.wal_log.specs.declared.input.Segment.{Segment}
use Rattle.wal_log.specs.Plan.{NumberedName}
use Rattle.store.specs.Calls.{Call}
use Rattle.store.specs.Found.{Found}
use Rattle.store.specs.Views.{View}
use Rattle.answers.specs.declared.requests.UnpackRequest.{UnpackRequest}
use Rattle.new_files.proofs.Safety.{for_less}
use Rattle.log_directory.specs.Listings.{AreListed}
use Rattle.log_directory.specs.declared.lost.Lost.{Lost}
use Rattle.unpack_command.specs.declared.rescue_writing.SlotCheckpoint.{SlotCheckpoint}
use Rattle.unpack_command.specs.declared.rescue_writing.SlotLog.{SlotLog}
use Rattle.unpack_command.specs.Folders.{IsOut, LeavesLog, LeavesOldOrLog}
use Rattle.unpack_command.specs.Since.{seen_since}
use Rattle.log_directory.specs.Rescued.{AreRescuedIn, IsRescuedCheckpoint, IsRescuedLogIn, checkpoint_slots}
use Rattle.unpack_command.specs.Rescues.{RescueEnding, Rescues, failing_rescue}
use Rattle.unpack_command.specs.RescueSteps.{IsInnerRescued, IsRescuedFrom, RescuesInto, with_slot_files}
use Rattle.log_directory.specs.RescueSteps.{IsRescuedListed}
use Rattle.log_directory.specs.Slots.{slot_value}

module _ (view : View) (log : SlotLog) (c : Option Checkpoint) (segments : List Segment) (lost : List Lost) where
  -- without a checkpoint
  pub listed_alone : log.checkpoint ≡ None → IsRescuedFrom view log c segments lost → IsRescuedListed view log.dir.now None (map slot_value log.slots.now) c segments lost
  listed_alone none (inner, is, from) = record {
    first = from.first;
    later = from.later;
    lost_is = from.lost_is;
    checkpoint_is = subst (λ (x : Option Checkpoint). IsRescuedCheckpoint view log.dir.now None x from.first) (sym (is ∙ ap (λ p. with_slot_files p inner) none)) (subst (λ p. IsInnerRescued view p inner from.first) none from.inner_are);
    segments_are = from.segments_are;
  }

  -- with a checkpoint whose directory has these names
  pub listed_with : (newest : NumberedName) (inside : SlotCheckpoint) (names : List (List ℕ)) (files : List NumberedName) → log.checkpoint ≡ Some inside → inside.number ≡ newest.number → inside.dir.now ≡ path_join log.dir.now newest.name
      → view.names inside.dir.now names → AreListed None names files → map slot_value inside.slots.now ≡ checkpoint_slots files → IsRescuedFrom view log c segments lost → IsRescuedListed view log.dir.now (Some newest) (map slot_value log.slots.now) c segments lost
  listed_with newest inside names files some number dir listed are slots (inner, is, from) = record {
    first = from.first;
    later = from.later;
    lost_is = from.lost_is;
    checkpoint_is = subst (λ (x : Option Checkpoint). IsRescuedCheckpoint view log.dir.now (Some newest) x from.first) (sym (is ∙ ap (λ p. with_slot_files p inner) some)) (
      number,
      record {
        names = names;
        listed = subst (λ d. view.names d names) dir listed;
        inner = files;
        are = are;
        each = subst (λ ss. AreRescuedIn view (path_join log.dir.now newest.name) true ss inner from.first) slots
            (subst (λ d. AreRescuedIn view d true (map slot_value inside.slots.now) inner from.first) dir (subst (λ p. IsInnerRescued view p inner from.first) some from.inner_are));
      },
    );
    segments_are = from.segments_are;
  }

module _ {S : Type 0} (did : S → List Call → S → Type 0) (old : S) (path : List ℕ) (P Q : Option Checkpoint → List Segment → List Lost → Type 0) (more : (c : Option Checkpoint) (s : List Segment) (l : List Lost) → P c s l → Q c s l) (E : RescueEnding) (new : S) where
  pub rescued_weaker : RescuesInto did old path P E new → RescuesInto did old path Q E new
  rescued_weaker (inl none) = inl none
  rescued_weaker (inr (inl (c, s, l, is, tells, wrote))) = inr (inl (c, s, l, more c s l is, tells, wrote))
  rescued_weaker (inr (inr up)) = inr (inr up)

module _ {S : Type 0} (did : S → List Call → S → Type 0) (holds : S → List ℕ → Found → Type 0) (old : S) (request : UnpackRequest) (new : S) where
  -- with the path that it was to be written to
  pub rescues_out : (path : List ℕ) (E : RescueEnding) → IsOut request.out.now path → RescuesInto did old path (IsRescuedLogIn (seen_since did holds old) request.dir.now) E new → Rescues did holds old request E new
  rescues_out path E out (inl none) = inl none
  rescues_out path E out (inr writes) = inr (path, out, writes)

  -- of a run that failed nothing is known
  pub rescues_failed : (E : RescueEnding) → (E.told → ⊥) → (E.well → ⊥) → ((lost : List Lost) → E.tells lost) → Rescues did holds old request failing_rescue new → Rescues did holds old request E new
  rescues_failed E untold fails tells (inl (same, told, failed)) = inl (same, untold, fails)
  rescues_failed E untold fails tells (inr (path, out, inl (c, s, l, is, told, wrote))) =
      inr (path, out, inl (c, s, l, is, tells l, for_less did old (LeavesOldOrLog path c s) (LeavesLog path c s) new E.well ⊥ fails wrote))
  rescues_failed E untold fails tells (inr (path, out, inr (up, told, failed))) = inr (path, out, inr (up, untold, fails))
