-- Lists without repeats, and a change at one place.
use Rattle.std.proofs.Common.{◌≡◌, ℕ, zero, suc, Bool, true, false, List, [], ◌∷◌, ◌++◌, Some, sym, subst, ◌∙◌, refl, set}
use Rattle.std.specs.Prelude.{◌||◌, slice_get, if◌then◌else◌}
use Rattle.std.specs.List.{list_any, AllZip}
use Rattle.std.proofs.lemmas.List.Folds.{list_any-append}
use Rattle.hw_bytes.specs.Lists.{if_new, distinct, IsSame}
use Rattle.hw_bytes.proofs.Lists.{along-push, append_none, by_push, list_any-distinct}

pub or_false : (a : Bool) → (a || false) ≡ a
or_false true = refl
or_false false = refl

or_both : (a b : Bool) → a ≡ false → b ≡ false → (a || b) ≡ false
or_both false b h k = k
or_both true b h k = h

pub or_first : (a b : Bool) → (a || b) ≡ false → a ≡ false
or_first false b h = refl
or_first true b h = h

pub or_second : (a b : Bool) → (a || b) ≡ false → b ≡ false
or_second false b h = h
or_second true b h = cc

pub or_left : (a b : Bool) → a ≡ true → (a || b) ≡ true
or_left true b h = refl
or_left false b h = cc

pub or_right : (a b : Bool) → b ≡ true → (a || b) ≡ true
or_right true b h = refl
or_right false b h = h

module _ {A : Type 0} (same : A → A → Bool) (law : IsSame same) where
  same_sym : (a b : A) → same a b ≡ true → same b a ≡ true
  same_sym a b h = subst (λ c. same c a ≡ true) (law.exact a b h) (law.reflexive a)

  pub same_sym_false : (a b : A) → same a b ≡ false → same b a ≡ false
  same_sym_false a b h = by (same b a) refl where
    by : (y : Bool) → same b a ≡ y → y ≡ false
    by true e = let k : same a b ≡ true = same_sym b a e in cc
    by false e = refl

  -- no element is equal to a later one
  abbrev pub AreApart : List A → Type 0
  AreApart [] = Unit {0}
  AreApart (x ∷ xs) = (list_any (same x) xs ≡ false) × AreApart xs

  AreApart-push : (xs : List A) (x : A) → AreApart xs → list_any (same x) xs ≡ false → AreApart (xs ++ x ∷ [])
  AreApart-push [] x d h = (refl, tt)
  AreApart-push (y ∷ ys) x d h = (
    list_any-append (same y) ys (x ∷ []) ∙ or_both (list_any (same y) ys) (same y x || false) d.0 (or_false (same y x) ∙ same_sym_false x y (or_first (same x y) (list_any (same x) ys) h)),
    AreApart-push ys x d.1 (or_second (same x y) (list_any (same x) ys) h),
  )

  pub AreApart-distinct : (xs : List A) → AreApart (distinct same xs)
  AreApart-distinct xs = by_push (λ ys. AreApart (distinct same ys)) tt step xs where
    by : (ys : List A) (y : A) (b : Bool) → list_any (same y) ys ≡ b → AreApart (distinct same ys) → AreApart (distinct same ys ++ (if b then [] else y ∷ []))
    by ys y true h d = subst AreApart (sym (append_none (distinct same ys))) d
    by ys y false h d = AreApart-push (distinct same ys) y d (list_any-distinct same law.exact y ys ∙ h)

    step : (ys : List A) (y : A) → AreApart (distinct same ys) → AreApart (distinct same (ys ++ y ∷ []))
    step ys y d = subst AreApart (sym (along-push (if_new same) ys y)) (by ys y (list_any (same y) ys) refl d)

  pub not_at : (x l : A) (xs : List A) (s : ℕ) → list_any (same x) xs ≡ false → slice_get xs s ≡ Some l → same x l ≡ false
  not_at x l [] s h e = cc
  not_at x l (y ∷ ys) zero h e = subst (λ z. same x z ≡ false) (let k : y ≡ l = cc in k) (or_first (same x y) (list_any (same x) ys) h)
  not_at x l (y ∷ ys) (suc s) h e = not_at x l ys s (or_second (same x y) (list_any (same x) ys) h) e

  module _ {B : Type 0} (P Q : A → B → Type 0) (l : A) (others : (x : A) (y : B) → same x l ≡ false → P x y → Q x y) where
    none_changed : (xs : List A) (ys : List B) → list_any (same l) xs ≡ false → AllZip P xs ys → AllZip Q xs ys
    none_changed [] [] h k = tt
    none_changed [] (y ∷ ys) h k = absurd k
    none_changed (x ∷ xs) [] h k = absurd k
    none_changed (x ∷ xs) (y ∷ ys) h k = (
      others x y (same_sym_false l x (or_first (same l x) (list_any (same l) xs) h)) k.0,
      none_changed xs ys (or_second (same l x) (list_any (same l) xs) h) k.1,
    )

    -- a change at the place of one element, and what that does to the others
    pub AllZip-changed : (xs : List A) (ys : List B) (p : ℕ) (y : B) → AreApart xs → slice_get xs p ≡ Some l → Q l y → AllZip P xs ys → AllZip Q xs (set ys p y)
    AllZip-changed [] ys p y d e q h = cc
    AllZip-changed (x ∷ xs) [] p y d e q h = absurd h
    AllZip-changed (x ∷ xs) (z ∷ ys) zero y d e q h =
        let k : x ≡ l = cc in
        (subst (λ w. Q w y) (sym k) q, none_changed xs ys (subst (λ w. list_any (same w) xs ≡ false) k d.0) h.1)
    AllZip-changed (x ∷ xs) (z ∷ ys) (suc p) y d e q h = (others x z (not_at x l xs p d.0 e) h.0, AllZip-changed xs ys p y d.1 e q h.1)
