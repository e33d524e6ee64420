-- The name of a new folder, and what lies in it.
use Rattle.std.specs.Prelude.{ℕ, ◌≡◌, ◌<◌, ◌||◌, ◌==◌, not, T, Bool, true, false, Option, None, Some, List, [], ◌∷◌, codes, length, refl}
use Rattle.std.specs.List.{AllByRecursion, list_any}
use Rattle.std.specs.Path.{HasNoSlash, has_no_slash, path_join, slash}
use Rattle.std.proofs.Common.{ap, sym}
use Rattle.std.proofs.lemmas.Bool.{false≢true}
use Rattle.wal_log.specs.declared.input.Checkpoint.{Checkpoint}
use Rattle.wal_log.specs.declared.input.Segment.{Segment}
use Rattle.store.specs.Disk.{is_in}
use Rattle.new_files.specs.Folders.{AreInside, FileAt, is_inside}
use Rattle.new_files.specs.Targets.{IsName, zero_filled}
use Rattle.new_files.proofs.Digits.{both, filled_is_name, name_behind}
use Rattle.new_files.proofs.Disks.{all_then}
use Rattle.new_files.proofs.Paths.{inside_one, joined_in}
use Rattle.unpack_command.specs.Folders.{checkpoint_in, checkpoint_name, files_in, log_dirs, log_files}

-- ---- the name of a path

either : (a b : Bool) → (a || b) ≡ false → (a ≡ false) × (b ≡ false)
either true b is = absurd (false≢true (sym is))
either false b is = (refl, is)

no_slash_in : (name : List ℕ) → list_any (λ byte. byte == slash) name ≡ false → HasNoSlash name
no_slash_in [] is = tt
no_slash_in (c ∷ name) is =
    let parts = either (c == slash) (list_any (λ byte. byte == slash) name) is in
    both (not (c == slash)) (has_no_slash name) (by (c == slash) parts.0) (no_slash_in name parts.1) where
      by : (b : Bool) → b ≡ false → T (not b)
      by true is = absurd (false≢true (sym is))
      by false is = tt

-- a text with a byte and without a slash is a name that a directory may have
pub is_some_name : (name : List ℕ) → 0 < length name → list_any (λ byte. byte == slash) name ≡ false → IsName name
is_some_name name some none = record { some = some; no_slash = no_slash_in name none }

-- ---- what lies in the folder of a log

checkpoint_is_name : (number : ℕ) → IsName (checkpoint_name number)
checkpoint_is_name number = name_behind (codes "checkpoint.") (zero_filled 8 number) tt (filled_is_name 8 number)

first_in : (dirs : List (List ℕ)) (dir path : List ℕ) → is_in dir path ≡ true → is_inside (dir ∷ dirs) path ≡ true
first_in dirs dir path is = ap (λ (b : Bool). b || is_inside dirs path) is

later_in : (dirs : List (List ℕ)) (dir path : List ℕ) → is_inside dirs path ≡ true → is_inside (dir ∷ dirs) path ≡ true
later_in dirs dir path is = by (is_in dir path) where
  by : (b : Bool) → (b || is_inside dirs path) ≡ true
  by true = refl
  by false = is

-- files lie in their folder, which is the first of these directories
files_inside : (dirs : List (List ℕ)) (folder : List ℕ) (segments : List Segment) → ((path : List ℕ) → is_in folder path ≡ true → is_inside dirs path ≡ true) → AllByRecursion (λ (file : FileAt). is_inside dirs file.path ≡ true) (files_in folder segments)
files_inside dirs folder [] inside = tt
files_inside dirs folder (s ∷ segments) inside = (inside (path_join folder (zero_filled 8 s.number)) (joined_in folder (zero_filled 8 s.number) (filled_is_name 8 s.number)), files_inside dirs folder segments inside)

pub log_inside : (folder : List ℕ) (checkpoint : Option Checkpoint) (segments : List Segment) → AreInside folder (log_dirs folder checkpoint) (log_files folder checkpoint segments)
log_inside folder None segments = record { dirs_in = tt; files_in = files_inside (folder ∷ []) folder segments (inside_one folder) }
log_inside folder (Some c) segments =
    let dir = checkpoint_in folder c.number in
    record {
      dirs_in = (joined_in folder (checkpoint_name c.number) (checkpoint_is_name c.number), tt);
      files_in = all_then (λ (file : FileAt). is_inside (dir ∷ folder ∷ []) file.path ≡ true) (files_in dir c.files) (files_in folder segments)
          (files_inside (dir ∷ folder ∷ []) dir c.files (first_in (folder ∷ []) dir))
          (files_inside (dir ∷ folder ∷ []) folder segments (λ path is. later_in (folder ∷ []) dir path (inside_one folder path is)));
    }
