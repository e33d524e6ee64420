-- What a store held at some moment since another one.
use Rattle.std.specs.Prelude.{ℕ, Bool, List, [], ◌∷◌, ◌++◌, Option, None, Some}
use Rattle.std.proofs.Common.{inl, inr}
use Rattle.wal_log.specs.declared.input.Segment.{Segment}
use Rattle.wal_log.specs.Plan.{NumberedName}
use Rattle.wal_unpack.specs.declared.fault.UnpackDamage.{UnpackDamage}
use Rattle.store.specs.Calls.{Call}
use Rattle.store.specs.Found.{Found}
use Rattle.store.specs.Views.{View, view_of}
use Rattle.log_directory.specs.declared.unpacking.FileDamage.{FileDamage}
use Rattle.log_directory.specs.Unpacked.{AreUnpackedIn, IsUnpackedIn}
use Rattle.unpack_command.specs.Since.{seen_since}
use Rattle.unpack_command.specs.Steps.{AreUnpackedOf}
use Rattle.unpack_command.specs.declared.planned.PlannedCheckpoint.{PlannedCheckpoint}

-- where more bytes of files are seen
module _ (view wider : View) (more : (dir name bytes : List ℕ) → view.bytes dir name bytes → wider.bytes dir name bytes) where
  pub file_wider : (dir : List ℕ) (planned : NumberedName) (f : Segment) (damage : Option UnpackDamage) → IsUnpackedIn view dir planned f damage → IsUnpackedIn wider dir planned f damage
  file_wider dir planned f damage (file, (number, bytes), is) = (file, (number, more dir planned.name file.bytes bytes), is)

  pub files_wider : (dir : List ℕ) (b : Bool) (plan : List NumberedName) (files : List Segment) (damage : Option FileDamage) → AreUnpackedIn view dir b plan files damage → AreUnpackedIn wider dir b plan files damage
  files_wider dir b [] files damage are = are
  files_wider dir b (n ∷ plan) files damage (inl (f, others, first, is, rest)) = inl (f, others, file_wider dir n f None first, is, files_wider dir b plan others damage rest)
  files_wider dir b (n ∷ plan) files damage (inr (f, bad, last, is, told)) = inr (f, bad, file_wider dir n f (Some bad) last, is, told)

  pub checkpoint_wider : (c : Option PlannedCheckpoint) (files : List Segment) (damage : Option FileDamage) → AreUnpackedOf view c files damage → AreUnpackedOf wider c files damage
  checkpoint_wider None files damage is = is
  checkpoint_wider (Some c) files damage are = files_wider c.dir.now _ _ files damage are

module _ {S : Type 0} (did : S → List Call → S → Type 0) (holds : S → List ℕ → Found → Type 0) (old : S) where
  -- what is held at a moment since was held since
  pub held_at : (s : S) (made : List Call) → did old made s → (dir : List ℕ) (planned : NumberedName) (f : Segment) (damage : Option UnpackDamage) → IsUnpackedIn (view_of (holds s)) dir planned f damage → IsUnpackedIn (seen_since did holds old) dir planned f damage
  held_at s made done = file_wider (view_of (holds s)) (seen_since did holds old) (λ dir name bytes held. (s, made, done, held))

  -- what was held since a later moment was held since
  pub held_later : ((a b c : S) (first second : List Call) → did a first b → did b second c → did a (first ++ second) c) → (middle : S) (made : List Call) → did old made middle
      → (dir name bytes : List ℕ) → (seen_since did holds middle).bytes dir name bytes → (seen_since did holds old).bytes dir name bytes
  held_later both middle made done dir name bytes (s, more, later, held) = (s, made ++ more, both old middle s made more done later, held)
