-- A new file: the order in which it is written, and what a crash leaves of it.
use Rattle.std.specs.Prelude.{◌≡◌, ◌⊎◌, ℕ, List, [], ◌∷◌, ◌++◌, Option, Some, Result, MatchResult}
use Rattle.store.specs.Calls.{Call, Create, Remove, Rename, SyncDir, SyncFile, Write}
use Rattle.store.specs.Disk.{AreLeft, File, Standing}
use Rattle.new_files.specs.Orders.{AreAll, AreFirst, DidAll}

-- a file of these bytes, which is synced
abbrev pub file_calls : List ℕ → List ℕ → List Call
file_calls path bytes = Create path ∷ Write path bytes ∷ SyncFile path ∷ []

-- The unfinished file, which an earlier run may have left, is written and takes the place of the one at the path.
abbrev pub moved_file : List ℕ → List ℕ → List ℕ → List ℕ → List Call
moved_file parent path unfinished bytes = Remove unfinished ∷ file_calls unfinished bytes ++ Rename unfinished path ∷ SyncDir parent ∷ []

-- A new file: an empty file claims its name, and the finished one takes its place.
abbrev pub new_file : List ℕ → List ℕ → List ℕ → List ℕ → List Call
new_file parent path unfinished bytes = Create path ∷ moved_file parent path unfinished bytes

-- A new file was begun, and both of its files were removed, unless not even its name was claimed.
pub record IsGivenUp (parent path unfinished bytes : List ℕ) (made : List Call) : Type 0 where
  pub begun : List Call
  pub removed : List Call
  pub made_of : made ≡ begun ++ removed
  pub are_first : AreFirst begun (new_file parent path unfinished bytes)
  pub are_all : AreAll removed (Remove unfinished ∷ Remove path ∷ [])
  pub claimed : begun ≡ [] → removed ≡ []

-- between these states of a store a new file was made, or was given up
abbrev pub Makes : {S T E : Type 0} → (S → List Call → S → Type 0) → S → List ℕ → List ℕ → List ℕ → List ℕ → Result T E → S → Type 0
Makes did old parent path unfinished bytes result new = MatchResult result
    (λ _. DidAll did old (new_file parent path unfinished bytes) new)
    (λ _. (made : List Call) × did old made new × IsGivenUp parent path unfinished bytes made)

-- At the path is what was there, or an empty file, or one with these bytes; and all else as before, but for the unfinished file.
pub record LeavesOldOrFile (path unfinished bytes : List ℕ) (before : Standing) (leads : List ℕ → Option File) (left : Standing) : Type 0 where
  pub file : (left path ≡ before path) ⊎ ((left path ≡ Some []) ⊎ (left path ≡ Some bytes))
  pub others : AreLeft (path ∷ unfinished ∷ []) before left

-- At the path is a file with these bytes, where nothing was before.
pub record LeavesFile (path bytes : List ℕ) (before : Standing) (leads : List ℕ → Option File) (left : Standing) : Type 0 where
  pub file : left path ≡ Some bytes
