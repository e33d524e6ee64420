-- Elements without repeats, and what is found among them.
use Rattle.std.proofs.Common.{◌≡◌, ℕ, suc, ◌+◌, Bool, true, false, List, [], ◌∷◌, ◌++◌, length, Option, Some, None, refl, sym, ap, subst, ◌∙◌, arith}
use Rattle.std.specs.Prelude.{◌||◌, map, if◌then◌else◌, slice_set, slice_index_or}
use Rattle.std.specs.Cmp.{IsEquivalence}
use Rattle.std.specs.List.{AllByRecursion, IsDistinct, list_any}
use Rattle.std.specs.Option.{option_map}
use Rattle.std.proofs.Math.Seq.{get_or-append_seam, set-append_seam}
use Rattle.std.proofs.lemmas.List.{map-append}
use Rattle.std.proofs.lemmas.Map.Keys.{IsDistinct-head, IsDistinct-push, IsDistinct-tail}
use Rattle.hw_bytes.specs.Lists.{distinct, if_new, place}
use Rattle.hw_bytes.proofs.Lists.{along-push, append_none, by_push, list_any-distinct}

module _ {K : Type 0} (same : K → K → Bool) (law : IsEquivalence same) (exact : (a b : K) → same a b ≡ true → a ≡ b) where
  -- one element more: it is there already, or new
  pub distinct_old : (ks : List K) (x : K) → list_any (same x) (distinct same ks) ≡ true → distinct same (ks ++ x ∷ []) ≡ distinct same ks
  distinct_old ks x h =
      along-push (if_new same) ks x
      ∙ ap (λ b. distinct same ks ++ (if b then [] else x ∷ [])) (sym (list_any-distinct same exact x ks) ∙ h)
      ∙ append_none (distinct same ks)

  pub distinct_new : (ks : List K) (x : K) → list_any (same x) (distinct same ks) ≡ false → distinct same (ks ++ x ∷ []) ≡ distinct same ks ++ x ∷ []
  distinct_new ks x h =
      along-push (if_new same) ks x
      ∙ ap (λ b. distinct same ks ++ (if b then [] else x ∷ [])) (sym (list_any-distinct same exact x ks) ∙ h)

  -- no elements are distinct
  nothing : IsDistinct same []
  unfolding IsDistinct
  nothing = tt

  -- no element without repeats is equal to one after it
  pub distinct-IsDistinct : (ks : List K) → IsDistinct same (distinct same ks)
  distinct-IsDistinct ks = by_push (λ ls. IsDistinct same (distinct same ls)) nothing step ks where
    by : (ls : List K) (x : K) (b : Bool) → list_any (same x) (distinct same ls) ≡ b → IsDistinct same (distinct same ls) → IsDistinct same (distinct same (ls ++ x ∷ []))
    by ls x true h d = subst (IsDistinct same) (sym (distinct_old ls x h)) d
    by ls x false h d = subst (IsDistinct same) (sym (distinct_new ls x h)) (IsDistinct-push law (distinct same ls) x d h)

    step : (ls : List K) (x : K) → IsDistinct same (distinct same ls) → IsDistinct same (distinct same (ls ++ x ∷ []))
    step ls x d = by ls x (list_any (same x) (distinct same ls)) refl d

  -- x is one of these, with so many before it
  pub record IsFound (x : K) (ks : List K) (i : ℕ) : Type 0 where
    pub front : List K
    pub back : List K
    pub parts : ks ≡ front ++ x ∷ back
    pub long : length front ≡ i

  -- the place of x is where it is
  pub found : (x : K) (ks : List K) (i : ℕ) → place (λ k. same k x) ks ≡ Some i → IsFound x ks i
  found x [] i h = absurd cc
  found x (k ∷ ks) i h = by (same k x) refl (place (λ z. same z x) ks) (λ m e. found x ks m e) i h where
    by : (b : Bool) → same k x ≡ b → (o : Option ℕ) → ((m : ℕ) → o ≡ Some m → IsFound x ks m) → (j : ℕ) → (if b then Some 0 else option_map (λ n. n + 1) o) ≡ Some j → IsFound x (k ∷ ks) j
    by true e o f j g = (let zero_is : 0 ≡ j = cc in record { front = []; back = ks; parts = ap (λ z. z ∷ ks) (exact k x e); long = zero_is })
    by false e None f j g = absurd cc
    by false e (Some m) f j g =
        let more : m + 1 ≡ j = cc in
        let deep = f m refl in
        record { front = k ∷ deep.front; back = deep.back; parts = ap (λ z. k ∷ z) deep.parts; long = (let long = deep.long in omega (arith, long, more)) }

  -- x is none of these
  pub not_found : (x : K) (ks : List K) → place (λ k. same k x) ks ≡ None → AllByRecursion (λ k. same k x ≡ false) ks
  not_found x [] h = tt
  not_found x (k ∷ ks) h = by (same k x) refl (place (λ z. same z x) ks) (λ e. not_found x ks e) h where
    by : (b : Bool) → same k x ≡ b → (o : Option ℕ) → (o ≡ None → AllByRecursion (λ z. same z x ≡ false) ks) → (if b then Some 0 else option_map (λ n. n + 1) o) ≡ None → (same k x ≡ false) × AllByRecursion (λ z. same z x ≡ false) ks
    by true e o f g = absurd cc
    by false e None f g = (e, f refl)
    by false e (Some m) f g = absurd cc

  -- the same as a test
  pub any_none : (x : K) (ks : List K) → AllByRecursion (λ k. same k x ≡ false) ks → list_any (same x) ks ≡ false
  any_none x [] h = refl
  any_none x (k ∷ ks) h = ap (λ b. b || list_any (same x) ks) (law.symm x k ∙ h.0) ∙ any_none x ks h.1

  pub any_found : (x : K) (front back : List K) → list_any (same x) (front ++ x ∷ back) ≡ true
  any_found x [] back = ap (λ b. b || list_any (same x) back) (law.refl x)
  any_found x (k ∷ front) back = by (same x k) (any_found x front back) where
    by : (b : Bool) → list_any (same x) (front ++ x ∷ back) ≡ true → (b || list_any (same x) (front ++ x ∷ back)) ≡ true
    by true h = refl
    by false h = h

  -- the test, turned round
  turned : (x : K) (ks : List K) → AllByRecursion (λ k. same x k ≡ false) ks → AllByRecursion (λ k. same k x ≡ false) ks
  turned x [] h = tt
  turned x (k ∷ ks) h = (law.symm k x ∙ h.0, turned x ks h.1)

  -- what holds of all holds of the one between
  at_seam : (P : K → Type 0) (front back : List K) (x : K) → AllByRecursion P (front ++ x ∷ back) → P x
  at_seam P [] back x h = h.0
  at_seam P (k ∷ front) back x h = at_seam P front back x h.1

  -- x is neither before nor after itself
  apart : (x : K) (front back : List K) → IsDistinct same (front ++ x ∷ back) → AllByRecursion (λ k. same k x ≡ false) front × AllByRecursion (λ k. same k x ≡ false) back
  apart x [] back d = (tt, turned x back (IsDistinct-head same x back d))
  apart x (k ∷ front) back d =
      let deep = apart x front back (IsDistinct-tail same k (front ++ x ∷ back) d) in
      ((at_seam (λ y. same k y ≡ false) front back x (IsDistinct-head same k (front ++ x ∷ back) d), deep.0), deep.1)

  module _ {C : Type 0} (f g : K → C) (x : K) (alike : (k : K) → same k x ≡ false → f k ≡ g k) where
    -- what differs only at x is alike where x is not
    pub map_alike : (ks : List K) → AllByRecursion (λ k. same k x ≡ false) ks → map f ks ≡ map g ks
    map_alike [] h = refl
    map_alike (k ∷ ks) h = ap (λ c. c ∷ map f ks) (alike k h.0) ∙ ap (λ cs. g k ∷ cs) (map_alike ks h.1)

    -- what differs only at x differs only where x is
    pub map_set : (ks : List K) (i : ℕ) → IsDistinct same ks → IsFound x ks i → slice_set (map f ks) i (g x) ≡ map g ks
    map_set ks i d h =
        let away = apart x h.front h.back (subst (IsDistinct same) h.parts d) in
        let count : length (map f h.front) ≡ i = long f h.front ∙ h.long in
        ap (λ zs. slice_set (map f zs) i (g x)) h.parts
        ∙ ap (λ cs. slice_set cs i (g x)) (map-append f h.front (x ∷ h.back))
        ∙ ap (λ n. slice_set (map f h.front ++ f x ∷ map f h.back) n (g x)) (sym count)
        ∙ set-append_seam (map f h.front) (f x) (map f h.back) (g x)
        ∙ ap (λ cs. cs ++ g x ∷ map f h.back) (map_alike h.front away.0)
        ∙ ap (λ cs. map g h.front ++ g x ∷ cs) (map_alike h.back away.1)
        ∙ sym (map-append g h.front (x ∷ h.back))
        ∙ sym (ap (map g) h.parts) where
          long : (e : K → C) (zs : List K) → length (map e zs) ≡ length zs
          long e [] = refl
          long e (z ∷ zs) = ap suc (long e zs)

  -- what is there
  pub map_at : {C : Type 0} (f : K → C) (x : K) (ks : List K) (i : ℕ) (d : C) → IsFound x ks i → slice_index_or (map f ks) i d ≡ f x
  map_at {C} f x ks i d h =
      ap (λ zs. slice_index_or (map f zs) i d) h.parts
      ∙ ap (λ cs. slice_index_or cs i d) (map-append f h.front (x ∷ h.back))
      ∙ ap (λ n. slice_index_or (map f h.front ++ f x ∷ map f h.back) n d) (sym (long h.front ∙ h.long))
      ∙ get_or-append_seam (map f h.front) (f x) (map f h.back) d where
        long : (zs : List K) → length (map f zs) ≡ length zs
        long [] = refl
        long (z ∷ zs) = ap suc (long zs)
