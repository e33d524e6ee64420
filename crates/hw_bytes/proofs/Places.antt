-- The first place of an element, and the elements up to a place.
use Rattle.std.proofs.Common.{◌≡◌, ℕ, zero, suc, ◌+◌, Bool, true, false, cond, List, [], ◌∷◌, ◌++◌, Some, None, ap, subst, ◌∙◌, refl, arith, length, take}
use Rattle.std.specs.Prelude.{◌||◌, map, nat_lt, if◌then◌else◌, not, position, slice_get}
use Rattle.std.specs.List.{list_any, position_or_len}
use Rattle.std.specs.Option.{option_map}
use Rattle.hw_bytes.specs.Lists.{place}

lt_suc : (a b : ℕ) → nat_lt (suc a) (suc b) ≡ nat_lt a b
lt_suc a b = grind arith

some_suc : (a b : ℕ) → cond (nat_lt (suc a) (suc b)) (Some (suc a)) None ≡ option_map (λ n. n + 1) (cond (nat_lt a b) (Some a) None)
some_suc a b = ap (λ c. cond c (Some (suc a)) None) (lt_suc a b) ∙ by (nat_lt a b) where
  by : (c : Bool) → cond c (Some (suc a)) None ≡ option_map (λ n. n + 1) (cond c (Some a) None)
  by true = ap Some (omega arith)
  by false = refl

-- std's `position` by cases
pub position-map : {A B : Type 0} (f : A → B) (p : B → Bool) (xs : List A) → position (λ x. p (f x)) xs ≡ place p (map f xs)
position-map f p [] = refl
position-map f p (x ∷ xs) = by (p (f x)) (position-map f p xs) where
  by : (b : Bool) → position (λ x. p (f x)) xs ≡ place p (map f xs)
      → (let n = cond (not b) (1 + position_or_len (λ x. p (f x)) xs) 0 in cond (nat_lt n (suc (length xs))) (Some n) None) ≡ (if b then Some 0 else option_map (λ n. n + 1) (place p (map f xs)))
  by true e = let k : nat_lt 0 (suc (length xs)) ≡ true = grind arith in ap (λ c. cond c (Some 0) None) k
  by false e = let k : 1 + position_or_len (λ x. p (f x)) xs ≡ suc (position_or_len (λ x. p (f x)) xs) = omega arith in ap (λ n. cond (nat_lt n (suc (length xs))) (Some n) None) k ∙ some_suc (position_or_len (λ x. p (f x)) xs) (length xs) ∙ ap (option_map (λ n. n + 1)) e

pub list_any-map : {A B : Type 0} (f : A → B) (p : B → Bool) (xs : List A) → list_any (λ x. p (f x)) xs ≡ list_any p (map f xs)
list_any-map f p [] = refl
list_any-map f p (x ∷ xs) = ap (λ b. p (f x) || b) (list_any-map f p xs)

pub take_more : {A : Type 0} (xs : List A) (i : ℕ) (x : A) → slice_get xs i ≡ Some x → take (i + 1) xs ≡ take i xs ++ x ∷ []
take_more {A = A} xs i x h = subst (λ n. take n xs ≡ take i xs ++ x ∷ []) (let k : suc i ≡ i + 1 = omega arith in k) (by xs i h) where
  by : (ys : List A) (j : ℕ) → slice_get ys j ≡ Some x → take (suc j) ys ≡ take j ys ++ x ∷ []
  by [] j h = cc
  by (y ∷ ys) zero h = let k : y ≡ x = cc in ap (λ z. z ∷ []) k
  by (y ∷ ys) (suc j) h = ap (λ zs. y ∷ zs) (by ys j h)
