-- The order in which the unfinished file is renamed before it is synced: a crash may leave any bytes at the path.
use Rattle.std.specs.Prelude.{ℕ, ◌≡◌, ◌≢◌, ◌⊎◌, Bool, true, false, if◌then◌else◌, List, [], ◌∷◌, ◌++◌, length, Option, Some, None, IfSome, bytes_eq, refl}
use Rattle.std.proofs.Common.{inl, inr, ap, subst, sym, ◌∙◌, arith, suc}
use Rattle.std.proofs.lemmas.Bool.{false≢true, true≢false, cases_Bool}
use Rattle.std.proofs.lemmas.Slice.Eq.{bytes_eq-Decides}
use Rattle.store.specs.Calls.{Call, Create, Write, Rename}
use Rattle.store.specs.Disk.{CanTakeAll, Content, File, IsAmong, IsBetween, MayRead, New, after_all, changed, disk_of, given, latest, led}
use Rattle.new_files.specs.Crashes.{AfterCrash}
use Rattle.new_files.specs.Files.{LeavesOldOrFile}
use Rattle.new_files.proofs.Disks.{changed_here, given_here, led_elsewhere, led_here}

is_there : Option (List ℕ) → Bool
is_there None = false
is_there (Some bytes) = true

not_absent : (bytes : List ℕ) → Some bytes ≡ None → ⊥
unfolding is_there
not_absent bytes is = true≢false (ap is_there is)

size : Option (List ℕ) → ℕ
size None = 0
size (Some bytes) = length bytes

not_longer : (byte : ℕ) (bytes : List ℕ) → Some (byte ∷ bytes) ≡ Some bytes → ⊥
unfolding size
not_longer byte bytes is = let e : suc (length bytes) ≡ length bytes = ap size is in omega (arith, e)

not_empty : (byte : ℕ) (bytes : List ℕ) → Some (byte ∷ bytes) ≡ Some [] → ⊥
unfolding size
not_empty byte bytes is = let e : suc (length bytes) ≡ 0 = ap size is in omega (arith, e)

abbrev IsOneOf : List ℕ → Option (List ℕ) → Type 0
IsOneOf bytes left = (left ≡ None) ⊎ ((left ≡ Some []) ⊎ (left ≡ Some bytes))

none_of_these : (byte : ℕ) (bytes : List ℕ) → IsOneOf bytes (Some (byte ∷ bytes)) → ⊥
none_of_these byte bytes (inl is) = not_absent (byte ∷ bytes) is
none_of_these byte bytes (inr (inl is)) = not_empty byte bytes is
none_of_these byte bytes (inr (inr is)) = not_longer byte bytes is

module _ (path unfinished bytes : List ℕ) (differ : path ≢ unfinished) where
  abbrev no_files : List ℕ → Option (List ℕ)
  no_files other = None

  abbrev exchanged : List Call
  exchanged = Create path ∷ Create unfinished ∷ Write unfinished bytes ∷ Rename unfinished path ∷ []

  -- one byte too many
  abbrev left : List ℕ → Option (List ℕ)
  left = changed no_files path (Some (1 ∷ bytes))

  abbrev claimed : List ℕ → List (Option File)
  claimed = led (λ p. None ∷ []) path (Some (New path))

  abbrev created : List ℕ → List (Option File)
  created = led claimed unfinished (Some (New unfinished))

  abbrev moved : List ℕ → List (Option File)
  moved = led created path (latest (created unfinished))

  abbrev content : File → Content
  content = (after_all (disk_of no_files) exchanged).content

  leads : moved path ≡ Some (New unfinished) ∷ created path
  leads = led_here created path (latest (created unfinished)) ∙ ap (λ f. latest f ∷ created path) (led_here claimed unfinished (Some (New unfinished)))

  not_synced : (content (New unfinished)).synced ≡ false
  not_synced = let made = given (given (disk_of no_files).content path (record { bytes = []; synced = true; kept = None })) unfinished (record { bytes = []; synced = true; kept = None }) in
      ap (λ c. c.synced) (given_here made unfinished (record { bytes = (made (New unfinished)).bytes ++ bytes; synced = false; kept = (made (New unfinished)).kept }))

  none_kept : (content (New unfinished)).kept ≡ None
  none_kept = let claims = given (disk_of no_files).content path (record { bytes = []; synced = true; kept = None }) in
      let made = given claims unfinished (record { bytes = []; synced = true; kept = None }) in
      ap (λ c. c.kept) (given_here made unfinished (record { bytes = (made (New unfinished)).bytes ++ bytes; synced = false; kept = (made (New unfinished)).kept }))
      ∙ ap (λ c. c.kept) (given_here claims unfinished (record { bytes = []; synced = true; kept = None }))

  at_the_path : (file : Option File) × IsAmong (led moved unfinished None path) file × MayRead content file (left path)
  at_the_path = (
    Some (New unfinished),
    subst (λ files. IsAmong files (Some (New unfinished))) (sym (led_elsewhere moved unfinished path None (λ is. differ (sym is)) ∙ leads)) (inl refl),
    (1 ∷ bytes, changed_here no_files path (Some (1 ∷ bytes)), (λ synced. absurd (false≢true (sym not_synced ∙ synced))), subst (λ kept. IfSome kept (λ first. IsBetween first (1 ∷ bytes) (content (New unfinished)).bytes)) (sym none_kept) tt),
  )

  absent : (other : List ℕ) → bytes_eq path other ≡ false → left other ≡ None
  absent other is = ap (λ b. if b then Some (1 ∷ bytes) else None) is

  names_none : (other : List ℕ) → path ≢ other → (unfinished ≡ other) ⊎ (unfinished ≢ other) → IsAmong (led moved unfinished None other) None
  names_none other p (inl is) = subst (λ o. IsAmong (led moved unfinished None o) None) is (subst (λ files. IsAmong files None) (sym (led_here moved unfinished None)) (inl refl))
  names_none other p (inr u) = subst (λ files. IsAmong files None)
      (sym (led_elsewhere moved unfinished other None u ∙ led_elsewhere created path other (latest (created unfinished)) p ∙ led_elsewhere claimed unfinished other (Some (New unfinished)) u
      ∙ led_elsewhere (λ q. None ∷ []) path other (Some (New path)) p)) (inl refl)

  same_or_not : (a b : List ℕ) → (bytes_eq a b ≡ true) ⊎ (bytes_eq a b ≡ false) → (a ≡ b) ⊎ (a ≢ b)
  same_or_not a b (inl is) = inl ((bytes_eq-Decides a b).0 is)
  same_or_not a b (inr is) = inr (λ same. true≢false (sym ((bytes_eq-Decides a b).1 same) ∙ is))

  at_path : (other : List ℕ) → (bytes_eq path other ≡ true) ⊎ (bytes_eq path other ≡ false) → (file : Option File) × IsAmong (led moved unfinished None other) file × MayRead content file (left other)
  at_path other (inl is) = subst (λ o. (file : Option File) × IsAmong (led moved unfinished None o) file × MayRead content file (left o)) ((bytes_eq-Decides path other).0 is) at_the_path
  at_path other (inr is) = (None, names_none other (λ same. true≢false (sym ((bytes_eq-Decides path other).1 same) ∙ is)) (same_or_not unfinished other (cases_Bool (bytes_eq unfinished other))), absent other is)

  abbrev here : (other : List ℕ) → (file : Option File) × IsAmong (led moved unfinished None other) file × MayRead content file (left other)
  here other = at_path other (cases_Bool (bytes_eq path other))

  can_take : CanTakeAll (disk_of no_files) exchanged
  can_take = (refl, (ap latest (led_elsewhere (λ q. None ∷ []) path unfinished (Some (New path)) differ), (tt, (tt, tt))))

  pub is_not_safe : AfterCrash (LeavesOldOrFile path unfinished bytes) exchanged → ⊥
  is_not_safe safe = none_of_these 1 bytes (subst (IsOneOf bytes) (changed_here no_files path (Some (1 ∷ bytes)))
      (safe no_files left (λ other. (here other).0) can_take (λ other. ((here other).1, (here other).2))).file)
