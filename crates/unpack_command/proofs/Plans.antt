-- A planned log, unpacked, is the log of its plan.
use Rattle.std.specs.Prelude.{◌≡◌, ℕ, Bool, true, List, Option, None, Some, map}
use Rattle.std.specs.Path.{path_join}
use Rattle.std.proofs.Common.{ap, inl, inr, subst, sym, ◌∙◌}
use Rattle.wal_log.specs.declared.input.Checkpoint.{Checkpoint}
use Rattle.wal_log.specs.declared.input.Segment.{Segment}
use Rattle.wal_log.specs.Plan.{IsPlan, NumberedName, named as name_of}
use Rattle.store.specs.Calls.{Call}
use Rattle.store.specs.Found.{Found}
use Rattle.store.specs.Views.{View}
use Rattle.answers.specs.declared.requests.UnpackRequest.{UnpackRequest}
use Rattle.unpack_command.specs.declared.planned.PlannedCheckpoint.{PlannedCheckpoint}
use Rattle.unpack_command.specs.declared.planned.PlannedLog.{PlannedLog}
use Rattle.log_directory.specs.declared.unpacking.FileDamage.{FileDamage}
use Rattle.unpack_command.specs.Folders.{Ending, IsOut, Unpacks, WritesUnpacked, failing}
use Rattle.log_directory.specs.Unpacked.{AreUnpackedIn, IsUnpackedCheckpoint, IsUnpackedLogIn, IsUnpackedPlan}
use Rattle.unpack_command.specs.Since.{seen_since}
use Rattle.unpack_command.specs.Steps.{AreUnpackedOf, IsUnpackedFrom, UnpacksInto, with_files}
use Rattle.new_files.proofs.Safety.{for_less}
use Rattle.unpack_command.specs.Folders.{LeavesLog, LeavesOldOrLog}

module _ (view : View) (log : PlannedLog) (c : Option Checkpoint) (segments : List Segment) (damage : Option FileDamage) where
  -- without a checkpoint
  pub planned_alone : log.checkpoint ≡ None → IsUnpackedFrom view log c segments damage → IsUnpackedPlan view log.dir.now None (map name_of log.segments.now) c segments damage
  planned_alone none (inner, is, from) = record {
    first = from.first;
    checkpoint_is = subst (λ (x : Option Checkpoint). IsUnpackedCheckpoint view log.dir.now None x from.first) (sym (is ∙ ap (λ p. with_files p inner) none)) (subst (λ p. AreUnpackedOf view p inner from.first) none from.inner_are);
    segments_are = from.segments_are;
  }

  -- with a checkpoint whose directory has these names
  pub planned_with : (planned : NumberedName) (inside : PlannedCheckpoint) (names : List (List ℕ)) → log.checkpoint ≡ Some inside → inside.number ≡ planned.number → inside.dir.now ≡ path_join log.dir.now planned.name
      → view.names inside.dir.now names → IsPlan None names (map name_of inside.names.now) → IsUnpackedFrom view log c segments damage → IsUnpackedPlan view log.dir.now (Some planned) (map name_of log.segments.now) c segments damage
  planned_with planned inside names some number dir listed plan (inner, is, from) = record {
    first = from.first;
    checkpoint_is = subst (λ (x : Option Checkpoint). IsUnpackedCheckpoint view log.dir.now (Some planned) x from.first) (sym (is ∙ ap (λ p. with_files p inner) some)) (
      number,
      record {
        names = names;
        listed = subst (λ d. view.names d names) dir listed;
        plan = map name_of inside.names.now;
        planned = plan;
        each = subst (λ d. AreUnpackedIn view d true (map name_of inside.names.now) inner from.first) dir (subst (λ p. AreUnpackedOf view p inner from.first) some from.inner_are);
      },
    );
    segments_are = from.segments_are;
  }

module _ {S : Type 0} (did : S → List Call → S → Type 0) (old : S) (path : List ℕ) (P Q : Option Checkpoint → List Segment → Option FileDamage → Type 0) (more : (c : Option Checkpoint) (s : List Segment) (d : Option FileDamage) → P c s d → Q c s d) (through_damage : Bool) (E : Ending) (new : S) where
  pub writes_weaker : WritesUnpacked did old path P through_damage E new → WritesUnpacked did old path Q through_damage E new
  writes_weaker (inl (c, s, d, is, tells, unasked, wrote)) = inl (c, s, d, more c s d is, tells, unasked, wrote)
  writes_weaker (inr up) = inr up

  pub into_weaker : UnpacksInto did old path P through_damage E new → UnpacksInto did old path Q through_damage E new
  into_weaker (inl (same, fails, told)) = inl (same, fails, λ is. let found = told is in (found.0, found.1, found.2, more found.0 found.1 (Some found.2) found.3, found.4))
  into_weaker (inr writes) = inr (writes_weaker writes)

module _ {S : Type 0} (did : S → List Call → S → Type 0) (holds : S → List ℕ → Found → Type 0) (old : S) (request : UnpackRequest) (new : S) where
  -- with the path that it was to be written to
  pub unpacks_out : (path : List ℕ) (E : Ending) → IsOut request.out.now path → UnpacksInto did old path (IsUnpackedLogIn (seen_since did holds old) request.dir.now) request.through_damage E new → Unpacks did holds old request E new
  unpacks_out path E out (inl none) = inl none
  unpacks_out path E out (inr writes) = inr (path, out, writes)

  -- of a run that failed nothing is known
  pub unpacks_failed : (E : Ending) → (E.told → ⊥) → (E.well → ⊥) → ((damage : Option FileDamage) → E.tells damage) → Unpacks did holds old request failing new → Unpacks did holds old request E new
  unpacks_failed E untold fails tells (inl (same, failed, told)) = inl (same, fails, λ is. absurd (untold is))
  unpacks_failed E untold fails tells (inr (path, out, inl (c, s, d, is, told, unasked, wrote))) =
      inr (path, out, inl (c, s, d, is, tells d, unasked, for_less did old (LeavesOldOrLog path c s) (LeavesLog path c s) new E.well ⊥ fails wrote))
  unpacks_failed E untold fails tells (inr (path, out, inr (up, told, failed))) = inr (path, out, inr (up, untold, fails))
