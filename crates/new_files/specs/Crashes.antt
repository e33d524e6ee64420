-- What a crash leaves where a call of the program writes.
use Rattle.std.specs.Prelude.{◌≡◌, List, ◌++◌, Option, ℕ}
use Rattle.store.specs.Calls.{Call}
use Rattle.store.specs.Disk.{CanTakeAll, File, MayLeave, Standing, after_all, disk_of}

-- P of what was before these calls, of what a crash after them may leave, and of what its paths lead to
abbrev pub AfterCrash : (Standing → (List ℕ → Option File) → Standing → Type 0) → List Call → Type 0
AfterCrash P calls = (before left : Standing) (leads : List ℕ → Option File) → CanTakeAll (disk_of before) calls → MayLeave (after_all (disk_of before) calls) leads left → P before leads left

-- P at each moment of these calls: after each first part of them
abbrev pub AtEachMoment : (List Call → Type 0) → List Call → Type 0
AtEachMoment P made = (first rest : List Call) → made ≡ first ++ rest → P first

-- Between these states of a store such calls took effect that a crash at any moment of them leaves `Either`, and a crash after them leaves
-- `New` if all went well.
pub record IsCrashSafe {S : Type 0} (did : S → List Call → S → Type 0) (old : S) (Either New : Standing → (List ℕ → Option File) → Standing → Type 0) (WentWell : Type 0) (new : S) : Type 0 where
  pub made : List Call
  pub done : did old made new
  pub crash : AtEachMoment (AfterCrash Either) made
  pub well : WentWell → AfterCrash New made
