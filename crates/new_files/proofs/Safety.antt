-- What is safe in a crash, and calls that were not made.
use Rattle.std.specs.Prelude.{ℕ, ◌≡◌, List, [], ◌∷◌, ◌++◌, Option, refl}
use Rattle.std.proofs.Common.{inl, subst, sym}
use Rattle.store.specs.Calls.{Call}
use Rattle.store.specs.Disk.{File, MayLeave, Standing, after_all, disk_of}
use Rattle.new_files.specs.Crashes.{IsCrashSafe}
use Rattle.new_files.specs.Folders.{FileAt, LeavesFolder, LeavesOldOrFolder}
use Rattle.new_files.proofs.Disks.{leads_as_before, left_as_before}
use Rattle.new_files.proofs.Orders.{not_none}

module _ {S : Type 0} (did : S → List Call → S → Type 0) (old : S) (Either New : Standing → (List ℕ → Option File) → Standing → Type 0) (new : S) where
  -- it may be known of less that all went well
  pub for_less : (V W : Type 0) → (V → W) → IsCrashSafe did old Either New W new → IsCrashSafe did old Either New V new
  for_less V W less safe = record { made = safe.made; done = safe.done; crash = safe.crash; well = λ v. safe.well (less v) }

nothing_first : (first rest : List Call) → [] ≡ first ++ rest → first ≡ []
nothing_first [] rest is = refl
nothing_first (call ∷ first) rest is = absurd (not_none call (first ++ rest) (sym is))

-- No call was made, and not all went well.
pub untouched : {S : Type 0} (did : S → List Call → S → Type 0) (state : S) → did state [] state → (path unfinished : List ℕ) (dirs : List (List ℕ)) (files : List FileAt) (W : Type 0) → (W → ⊥)
    → IsCrashSafe did state (LeavesOldOrFolder path unfinished dirs files) (LeavesFolder path unfinished dirs files) W state
untouched did state none path unfinished dirs files W failed = record {
  made = [];
  done = none;
  crash = λ first rest is before left leads can leaves.
      let unchanged = subst (λ m. MayLeave (after_all (disk_of before) m) leads left) (nothing_first first rest is) leaves in
      let all = left_as_before before leads left unchanged in
      record { folder = inl (all path); others = λ other differ. all other; leads_as = λ other differ. leads_as_before before leads left unchanged other };
  well = λ went. absurd (failed went);
}
