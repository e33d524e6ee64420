-- How a run ends, by its answer.
use Rattle.std.specs.Prelude.{◌≡◌, ℕ, ◌∷◌, ◌++◌, Bool, false, Option, None, Some, IfSome, IsSome, List, [], OnOk, Result, Ok, Err, if◌then◌else◌, is_ok, refl, string_bytes}
use Rattle.std.proofs.Common.{ap, append_assoc, inl, inr, sym, ◌∙◌}
use Rattle.std.proofs.lemmas.Bool.{false≢true}
use Rattle.wal_log.specs.declared.input.Segment.{Segment}
use Rattle.wal_log.specs.Plan.{NumberedName}
use Rattle.store.specs.Calls.{Call}
use Rattle.store.specs.Found.{Found}
use Rattle.store.specs.Views.{view_of}
use Rattle.answers.specs.declared.fault.Status.TheVariants.{Damaged, Done}
use Rattle.answers.specs.declared.answer.Answer.{Answer}
use Rattle.unpack_command.specs.declared.planned.PlannedLog.{PlannedLog}
use Rattle.log_directory.specs.declared.unpacking.FileDamage.{FileDamage}
use Rattle.unpack_command.specs.Folders.{ending_of}
use Rattle.log_directory.specs.Unpacked.{AreUnpackedBehind}
use Rattle.unpack_command.specs.Since.{seen_since}
use Rattle.unpack_command.specs.Steps.{AreUnpackedFrom, IsUnpackedFrom, with_files}
use Rattle.unpack_command.specs.Told.{EndsWith, TellsUnpacked, damage_front}
use Rattle.log_directory.proofs.Results.{some_not_none}
use Rattle.unpack_command.proofs.Since.{checkpoint_wider, files_wider}

pub tells_unpacked : (damage : Option FileDamage) (answer : Answer) → (answer.status ≡ Done → damage ≡ None) → (answer.status ≡ Damaged → IsSome damage) → IfSome damage (λ bad. EndsWith bad (string_bytes answer.printed)) → TellsUnpacked damage answer
tells_unpacked None answer done damaged ends = record { done = done; damaged = λ is. absurd (false≢true (damaged is)) }
tells_unpacked (Some bad) answer done damaged ends = record { done = done; damaged = λ is. (bad, refl, ends) }

-- where nothing was written, since the log is damaged, not all went well
pub not_well : (through : Bool) (found : FileDamage) (answer : Answer) → through ≡ false → TellsUnpacked (Some found) answer → (ending_of through answer).well → ⊥
not_well through found answer off told (none, inl done) = some_not_none found (told.done done)
not_well through found answer off told (none, inr (damaged, on)) = false≢true (sym off ∙ on)

module _ {S : Type 0} (did : S → List Call → S → Type 0) (holds : S → List ℕ → Found → Type 0) (nothing : (s : S) → did s [] s) (old : S) where
  now_since : (dir name bytes : List ℕ) → (view_of (holds old)).bytes dir name bytes → (seen_since did holds old).bytes dir name bytes
  now_since dir name bytes held = (old, [], nothing old, held)

  behind_since : (dir : List ℕ) (first : Option FileDamage) (plan : List NumberedName) (segments : List Segment) (damage : Option FileDamage) → AreUnpackedBehind (view_of (holds old)) dir first plan segments damage → AreUnpackedBehind (seen_since did holds old) dir first plan segments damage
  behind_since dir None plan segments damage are = files_wider (view_of (holds old)) (seen_since did holds old) now_since dir false plan segments damage are
  behind_since dir (Some bad) plan segments damage are = are

  -- the damage that was found is that of the log
  pub found_from : (log : PlannedLog) (inner segments : List Segment) (damage : Option FileDamage) → AreUnpackedFrom (view_of (holds old)) log inner segments damage → IsUnpackedFrom (seen_since did holds old) log (with_files log.checkpoint inner) segments damage
  found_from log inner segments damage from = (
    inner,
    refl,
    record {
      first = from.first;
      inner_are = checkpoint_wider (view_of (holds old)) (seen_since did holds old) now_since log.checkpoint inner from.first from.inner_are;
      segments_are = behind_since log.dir.now from.first _ segments damage from.segments_are;
    },
  )

-- the answer that tells damage alone
pub damage_told : (found : FileDamage) (answer : Answer) → answer.status ≡ Damaged → (front why : List ℕ) → string_bytes answer.printed ≡ front ++ (damage_front found ++ (why ++ 10 ∷ [])) → TellsUnpacked (Some found) answer
damage_told found answer status front why is = record { done = λ done. absurd (differ (sym done ∙ status)); damaged = λ damaged. (found, refl, record { front = front; why = why; is = is }) } where
  differ : Done ≡ Damaged → ⊥
  differ same = cc

-- a line whose front, whose reason and whose end are appended in turn
pub line_ended : {A E : Type 0} (r : Result A E) (front old t1 t2 t3 why end : List ℕ) → t1 ≡ old ++ front → t2 ≡ t1 ++ why → t3 ≡ (if is_ok r then t2 ++ end else t2) → end ≡ 10 ∷ [] → OnOk r ((w : List ℕ) × (t3 ≡ old ++ (front ++ (w ++ 10 ∷ []))))
line_ended (Ok x) front old t1 t2 t3 why end e1 e2 e3 is_end = (
  why,
  e3 ∙ ap (λ (t : List ℕ). t2 ++ t) is_end ∙ ap (λ (t : List ℕ). t ++ 10 ∷ []) (e2 ∙ ap (λ (t : List ℕ). t ++ why) e1) ∙ in_a_row,
) where
  in_a_row : ((old ++ front) ++ why) ++ 10 ∷ [] ≡ old ++ (front ++ (why ++ 10 ∷ []))
  in_a_row = simp append_assoc
line_ended (Err e) front old t1 t2 t3 why end e1 e2 e3 is_end = tt
