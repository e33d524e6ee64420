-- Unfinished files that nobody writes any more.
use Rattle.std.specs.Prelude.{◌≡◌, ℕ, All, List, Some}
use Rattle.std.specs.Path.{path_join}
use Rattle.wal_log.specs.Names.{number_of}
use Rattle.store.specs.Calls.{Call, Remove}
use Rattle.new_files.specs.Targets.{unfinished_of}

-- the call removes the unfinished file of a segment in the directory
abbrev pub IsClearing : List ℕ → Call → Type 0
IsClearing dir call = (name : List ℕ) × (number : ℕ) × (number_of name ≡ Some number) × (call ≡ Remove (path_join dir (unfinished_of name)))

-- Between these states of a store only unfinished files of segments in the directory were removed.
pub record Clears {S : Type 0} (did : S → List Call → S → Type 0) (old : S) (dir : List ℕ) (new : S) : Type 0 where
  pub made : List Call
  pub done : did old made new
  pub each : All (IsClearing dir) made
