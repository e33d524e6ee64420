-- Lists without repeats.
use Rattle.std.proofs.Common.{◌≡◌, ℕ, zero, suc, ◌+◌, Bool, true, false, List, [], ◌∷◌, ◌++◌, Some, None, ap, sym, ◌∙◌, refl, take, arith, length, ◌≤◌}
use Rattle.std.specs.Prelude.{◌||◌, slice_get, if◌then◌else◌}
use Rattle.std.specs.List.{list_any}
use Rattle.std.specs.Option.{option_map}
use Rattle.hw_bytes.specs.Lists.{IsSame}
use Rattle.head_series.specs.Texts.{place}
use Rattle.head_series.specs.Rows.{AreDistinct}

or_false : (a b : Bool) → (a || b) ≡ false → (a ≡ false) × (b ≡ false)
or_false true b h = absurd (cc)
or_false false b h = (refl, h)

pub length_take : {A : Type 0} (xs : List A) (n : ℕ) → length (take n xs) ≤ length xs
length_take xs zero = omega arith
length_take [] (suc n) = omega arith
length_take (x ∷ xs) (suc n) = let k = length_take xs n in omega (arith, k)

module _ {A : Type 0} (same : A → A → Bool) (law : IsSame same) where
  not_same : (a b : A) → same a b ≡ false → same b a ≡ false
  not_same a b h = at (same b a) refl where
    at : (c : Bool) → same b a ≡ c → c ≡ false
    at true e = let k : b ≡ a = law.exact b a e in let m : same a b ≡ true = ap (same a) k ∙ law.reflexive a in cc
    at false e = refl

  has_push : (xs : List A) (x y : A) → list_any (same x) xs ≡ false → same x y ≡ false → list_any (same x) (xs ++ y ∷ []) ≡ false
  has_push [] x y h e = ap (λ b. b || false) e
  has_push (s ∷ xs) x y h e = at (or_false (same x s) (list_any (same x) xs) h) (λ b. has_push xs x y b e) where
    at : (same x s ≡ false) × (list_any (same x) xs ≡ false) → (list_any (same x) xs ≡ false → list_any (same x) (xs ++ y ∷ []) ≡ false) → (same x s || list_any (same x) (xs ++ y ∷ [])) ≡ false
    at (a, b) deep = ap (λ z. z || list_any (same x) (xs ++ y ∷ [])) a ∙ deep b

  pub distinct_push : (xs : List A) (y : A) → AreDistinct same xs → list_any (same y) xs ≡ false → AreDistinct same (xs ++ y ∷ [])
  distinct_push [] y d h = (refl, tt)
  distinct_push (s ∷ xs) y (a, b) h = at (or_false (same y s) (list_any (same y) xs) h) (λ f. distinct_push xs y b f) where
    at : (same y s ≡ false) × (list_any (same y) xs ≡ false) → (list_any (same y) xs ≡ false → AreDistinct same (xs ++ y ∷ [])) → (list_any (same s) (xs ++ y ∷ []) ≡ false) × AreDistinct same (xs ++ y ∷ [])
    at (e, f) deep = (has_push xs s y a (not_same y s e), deep f)

  pub distinct_take : (xs : List A) (n : ℕ) → AreDistinct same xs → AreDistinct same (take n xs)
  distinct_take xs zero d = tt
  distinct_take [] (suc n) d = tt
  distinct_take (x ∷ xs) (suc n) (a, b) = (any_take xs n a, distinct_take xs n b) where
    any_take : (ys : List A) (m : ℕ) → list_any (same x) ys ≡ false → list_any (same x) (take m ys) ≡ false
    any_take ys zero h = refl
    any_take [] (suc m) h = refl
    any_take (y ∷ ys) (suc m) h = at (or_false (same x y) (list_any (same x) ys) h) (any_take ys m) where
      at : (same x y ≡ false) × (list_any (same x) ys ≡ false) → (list_any (same x) ys ≡ false → list_any (same x) (take m ys) ≡ false) → (same x y || list_any (same x) (take m ys)) ≡ false
      at (e, f) deep = ap (λ z. z || list_any (same x) (take m ys)) e ∙ deep f

  pub among_at : (x : A) (xs : List A) (i : ℕ) → slice_get xs i ≡ Some x → list_any (same x) xs ≡ true
  among_at x [] i h = cc
  among_at x (s ∷ xs) zero h = let k : s ≡ x = cc in ap (λ b. b || list_any (same x) xs) (ap (same x) k ∙ law.reflexive x)
  among_at x (s ∷ xs) (suc i) h = at (same x s) (among_at x xs i h) where
    at : (b : Bool) → list_any (same x) xs ≡ true → (b || list_any (same x) xs) ≡ true
    at true e = refl
    at false e = e

  -- an element of a list without repeats is not before its place
  pub not_before : (x : A) (xs : List A) (i : ℕ) → AreDistinct same xs → slice_get xs i ≡ Some x → list_any (same x) (take i xs) ≡ false
  not_before x [] i d h = cc
  not_before x (s ∷ xs) zero d h = refl
  not_before x (s ∷ xs) (suc i) (a, b) h = at (same x s) refl (not_before x xs i b h) where
    at : (c : Bool) → same x s ≡ c → list_any (same x) (take i xs) ≡ false → (c || list_any (same x) (take i xs)) ≡ false
    at true e f =
        let k : x ≡ s = law.exact x s e in
        let m : list_any (same s) xs ≡ true = ap (λ z. list_any (same z) xs) (sym k) ∙ among_at x xs i h in
        let n : true ≡ false = sym m ∙ a in absurd (cc)
    at false e f = f

  pub place_at : (x : A) (xs : List A) (i : ℕ) → AreDistinct same xs → slice_get xs i ≡ Some x → Some i ≡ place (same x) xs
  place_at x [] i d h = cc
  place_at x (s ∷ xs) zero d h = let k : s ≡ x = cc in sym (ap (λ b. if b then Some 0 else option_map (λ n. n + 1) (place (same x) xs)) (ap (same x) k ∙ law.reflexive x))
  place_at x (s ∷ xs) (suc i) d h = at (same x s) refl (place_at x xs i d.1 h) where
    at : (b : Bool) → same x s ≡ b → Some i ≡ place (same x) xs → Some (suc i) ≡ (if b then Some 0 else option_map (λ n. n + 1) (place (same x) xs))
    at true e p =
        let k : x ≡ s = law.exact x s e in
        let m : list_any (same s) xs ≡ true = ap (λ z. list_any (same z) xs) (sym k) ∙ among_at x xs i h in
        let n : true ≡ false = sym m ∙ d.0 in absurd (cc)
    at false e p = (let g : suc i ≡ i + 1 = omega arith in ap Some g) ∙ ap (option_map (λ n. n + 1)) p

  -- the element at its place
  pub get_place : (x : A) (xs : List A) (s : ℕ) → place (same x) xs ≡ Some s → slice_get xs s ≡ Some x
  get_place x [] s h = cc
  get_place x (y ∷ ys) s h = at (same x y) (place (same x) ys) refl refl (λ n e. get_place x ys n e) h where
    at : (b : Bool) (o : _) → same x y ≡ b → place (same x) ys ≡ o → ((n : ℕ) → place (same x) ys ≡ Some n → slice_get ys n ≡ Some x)
        → (if b then Some 0 else option_map (λ n. n + 1) o) ≡ Some s → slice_get (y ∷ ys) s ≡ Some x
    at true o e f deep k = rw (let m : s ≡ 0 = cc in m) (ap Some (sym (law.exact x y e)))
    at false None e f deep k = cc
    at false (Some n) e f deep k = rw (let m : s ≡ suc n = (let q : n + 1 ≡ s = cc in omega (arith, q)) in m) (deep n f)
