-- References without repeats, and those of them that are not bound.
use Rattle.std.proofs.Common.{◌≡◌, ℕ, Bool, true, false, List, [], ◌∷◌, ◌++◌, refl, sym, ap, ◌∙◌, true≢false, arith}
use Rattle.std.specs.Prelude.{◌||◌, filter, not, nat_eq, if◌then◌else◌}
use Rattle.std.specs.List.{list_any}
use Rattle.std.proofs.lemmas.List.Folds.{list_any-append}
use Rattle.hw_bytes.specs.Lists.{distinct, if_new}
use Rattle.hw_bytes.proofs.Lists.{along-push, append_none, by_push}
use Rattle.wal_survey.specs.declared.references.UnboundReference.{UnboundReference}
use Rattle.wal_survey.specs.Unbound.{same_reference}

-- the test of a reference that is not bound
abbrev pub kept : (ℕ → Bool) → UnboundReference → Bool
kept bound u = not (bound u.reference)

or_false : (a : Bool) → (a || false) ≡ a
or_false true = refl
or_false false = refl

or_true : (a : Bool) → (a || true) ≡ true
or_true true = refl
or_true false = refl

-- equal references have the same place among others
same_as : (x u : UnboundReference) → same_reference x u ≡ true → x.reference ≡ u.reference
same_as x u e = grind (arith, e)

module _ (bound : ℕ → Bool) where
  -- a reference that is not bound is among the others that are not exactly if it is among all
  pub any_kept : (x : UnboundReference) → kept bound x ≡ true → (us : List UnboundReference) → list_any (same_reference x) (filter (kept bound) us) ≡ list_any (same_reference x) us
  any_kept x h [] = refl
  any_kept x h (u ∷ us) = by (any_kept x h us) (kept bound u) refl (same_reference x u) refl where
    by : list_any (same_reference x) (filter (kept bound) us) ≡ list_any (same_reference x) us → (b : Bool) → kept bound u ≡ b → (c : Bool) → same_reference x u ≡ c → list_any (same_reference x) (filter (kept bound) (u ∷ us)) ≡ list_any (same_reference x) (u ∷ us)
    by rest true e c f = rw e (ap (λ z. same_reference x u || z) rest)
    by rest false e true f = absurd (true≢false (sym h ∙ ap (λ r. not (bound r)) (same_as x u f) ∙ e))
    by rest false e false f = rw (e, f) rest

  pub kept-append : (xs ys : List UnboundReference) → filter (kept bound) (xs ++ ys) ≡ filter (kept bound) xs ++ filter (kept bound) ys
  kept-append [] ys = refl
  kept-append (x ∷ xs) ys = by (kept-append xs ys) (kept bound x) refl where
    by : filter (kept bound) (xs ++ ys) ≡ filter (kept bound) xs ++ filter (kept bound) ys → (b : Bool) → kept bound x ≡ b → filter (kept bound) (x ∷ (xs ++ ys)) ≡ filter (kept bound) (x ∷ xs) ++ filter (kept bound) ys
    by rest true e = rw e (ap (λ z. x ∷ z) rest)
    by rest false e = rw e rest

-- a reference is among others exactly if it is among them without repeats
pub any_distinct : (x : UnboundReference) (us : List UnboundReference) → list_any (same_reference x) (distinct same_reference us) ≡ list_any (same_reference x) us
any_distinct x us = by_push (λ ys. list_any (same_reference x) (distinct same_reference ys) ≡ list_any (same_reference x) ys) refl step us where
  absorbs : (a b : Bool) → (b ≡ true → a ≡ true) → a ≡ (a || b)
  absorbs true b f = refl
  absorbs false true f = f refl
  absorbs false false f = refl

  by : (ys : List UnboundReference) (y : UnboundReference) (b : Bool) → list_any (same_reference y) ys ≡ b
      → (list_any (same_reference x) ys || list_any (same_reference x) (if b then [] else y ∷ [])) ≡ (list_any (same_reference x) ys || (same_reference x y || false))
  by ys y true h =
      or_false (list_any (same_reference x) ys)
      ∙ absorbs (list_any (same_reference x) ys) (same_reference x y) (λ e. ap (λ r. list_any (λ u. nat_eq r u.reference) ys) (same_as x y e) ∙ h)
      ∙ ap (λ b. list_any (same_reference x) ys || b) (sym (or_false (same_reference x y)))
  by ys y false h = refl

  step : (ys : List UnboundReference) (y : UnboundReference) → list_any (same_reference x) (distinct same_reference ys) ≡ list_any (same_reference x) ys
      → list_any (same_reference x) (distinct same_reference (ys ++ y ∷ [])) ≡ list_any (same_reference x) (ys ++ y ∷ [])
  step ys y e =
      ap (λ zs. list_any (same_reference x) zs) (along-push (if_new same_reference) ys y)
      ∙ list_any-append (same_reference x) (distinct same_reference ys) (if_new same_reference ys y)
      ∙ ap (λ b. b || list_any (same_reference x) (if_new same_reference ys y)) e
      ∙ by ys y (list_any (same_reference y) ys) refl
      ∙ sym (list_any-append (same_reference x) ys (y ∷ []))

module _ (bound : ℕ → Bool) where
  pub one_kept : (y : UnboundReference) (b : Bool) → kept bound y ≡ b → filter (kept bound) (y ∷ []) ≡ (if b then y ∷ [] else [])
  one_kept y true e = rw e refl
  one_kept y false e = rw e refl

  -- to leave out the repeats and to leave out what is bound
  pub distinct_kept : (us : List UnboundReference) → distinct same_reference (filter (kept bound) us) ≡ filter (kept bound) (distinct same_reference us)
  distinct_kept us = by_push (λ ys. distinct same_reference (filter (kept bound) ys) ≡ filter (kept bound) (distinct same_reference ys)) refl step us where
    by_new : (y : UnboundReference) → kept bound y ≡ true → (c : Bool) → filter (kept bound) (if c then [] else y ∷ []) ≡ (if c then [] else y ∷ [])
    by_new y e true = refl
    by_new y e false = one_kept y true e

    by_old : (y : UnboundReference) → kept bound y ≡ false → (c : Bool) → filter (kept bound) (if c then [] else y ∷ []) ≡ []
    by_old y e true = refl
    by_old y e false = one_kept y false e

    by : (ys : List UnboundReference) (y : UnboundReference) (b : Bool) → kept bound y ≡ b → distinct same_reference (filter (kept bound) ys) ≡ filter (kept bound) (distinct same_reference ys)
        → distinct same_reference (filter (kept bound) ys ++ (if b then y ∷ [] else [])) ≡ filter (kept bound) (distinct same_reference ys) ++ filter (kept bound) (if_new same_reference ys y)
    by ys y true e h =
        along-push (if_new same_reference) (filter (kept bound) ys) y
        ∙ ap (λ zs. zs ++ if_new same_reference (filter (kept bound) ys) y) h
        ∙ ap (λ c. filter (kept bound) (distinct same_reference ys) ++ (if c then [] else y ∷ [])) (any_kept bound y e ys)
        ∙ ap (λ zs. filter (kept bound) (distinct same_reference ys) ++ zs) (sym (by_new y e (list_any (same_reference y) ys)))
    by ys y false e h =
        ap (λ zs. distinct same_reference zs) (append_none (filter (kept bound) ys))
        ∙ h
        ∙ sym (append_none (filter (kept bound) (distinct same_reference ys)))
        ∙ ap (λ zs. filter (kept bound) (distinct same_reference ys) ++ zs) (sym (by_old y e (list_any (same_reference y) ys)))

    step : (ys : List UnboundReference) (y : UnboundReference) → distinct same_reference (filter (kept bound) ys) ≡ filter (kept bound) (distinct same_reference ys)
        → distinct same_reference (filter (kept bound) (ys ++ y ∷ [])) ≡ filter (kept bound) (distinct same_reference (ys ++ y ∷ []))
    step ys y h =
        ap (distinct same_reference) (kept-append bound ys (y ∷ []) ∙ ap (λ zs. filter (kept bound) ys ++ zs) (one_kept y (kept bound y) refl))
        ∙ by ys y (kept bound y) refl h
        ∙ sym (ap (filter (kept bound)) (along-push (if_new same_reference) ys y) ∙ kept-append bound (distinct same_reference ys) (if_new same_reference ys y))
