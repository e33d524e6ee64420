-- A number among numbers.
use Rattle.std.proofs.Common.{◌≡◌, ℕ, ◌≤◌, ◌⊎◌, inl, inr, Bool, true, false, List, [], ◌∷◌, ◌++◌, ap, sym, ◌∙◌, refl, arith, eqb-true, eq-eqb}
use Rattle.std.specs.Prelude.{◌||◌, nat_eq}
use Rattle.series_references.specs.Has.{has}

pub has_here : (xs : List ℕ) (r : ℕ) → has (r ∷ xs) r ≡ true
has_here xs r = let e : nat_eq r r ≡ true = eq-eqb r r refl in ap (λ b. b || has xs r) e

pub has_later : (xs : List ℕ) (x r : ℕ) → has xs r ≡ true → has (x ∷ xs) r ≡ true
has_later xs x r h = at (nat_eq r x) where
  at : (b : Bool) → (b || has xs r) ≡ true
  at true = refl
  at false = h

pub has_cons : (xs : List ℕ) (x r : ℕ) → has (x ∷ xs) r ≡ true → (r ≡ x) ⊎ (has xs r ≡ true)
has_cons xs x r h = at (nat_eq r x) refl h where
  at : (b : Bool) → nat_eq r x ≡ b → (b || has xs r) ≡ true → (r ≡ x) ⊎ (has xs r ≡ true)
  at true e k = inl (eqb-true r x e)
  at false e k = inr k

pub has_either : (xs ys : List ℕ) (r : ℕ) → has (xs ++ ys) r ≡ true → (has xs r ≡ true) ⊎ (has ys r ≡ true)
has_either [] ys r h = inr h
has_either (x ∷ xs) ys r h = at (has_cons (xs ++ ys) x r h) (λ k. has_either xs ys r k) where
  deep : (has xs r ≡ true) ⊎ (has ys r ≡ true) → (has (x ∷ xs) r ≡ true) ⊎ (has ys r ≡ true)
  deep (inl k) = inl (has_later xs x r k)
  deep (inr k) = inr k

  at : (r ≡ x) ⊎ (has (xs ++ ys) r ≡ true) → (has (xs ++ ys) r ≡ true → (has xs r ≡ true) ⊎ (has ys r ≡ true)) → (has (x ∷ xs) r ≡ true) ⊎ (has ys r ≡ true)
  at (inl e) f = inl (ap (λ n. has (n ∷ xs) r) (sym e) ∙ has_here xs r)
  at (inr k) f = deep (f k)

pub has_left : (xs ys : List ℕ) (r : ℕ) → has xs r ≡ true → has (xs ++ ys) r ≡ true
has_left [] ys r h = cc
has_left (x ∷ xs) ys r h = at (has_cons xs x r h) (λ k. has_left xs ys r k) where
  at : (r ≡ x) ⊎ (has xs r ≡ true) → (has xs r ≡ true → has (xs ++ ys) r ≡ true) → has (x ∷ xs ++ ys) r ≡ true
  at (inl e) f = ap (λ n. has (n ∷ xs ++ ys) r) (sym e) ∙ has_here (xs ++ ys) r
  at (inr k) f = has_later (xs ++ ys) x r (f k)

pub has_right : (xs ys : List ℕ) (r : ℕ) → has ys r ≡ true → has (xs ++ ys) r ≡ true
has_right [] ys r h = h
has_right (x ∷ xs) ys r h = has_later (xs ++ ys) x r (has_right xs ys r h)

-- a number no less than the least, put in on one side
pub least_left : (old odd new : List ℕ) (first least greater : ℕ) → ((r : ℕ) → has (old ++ odd) r ≡ true → first ≤ r) → ((r : ℕ) → has new r ≡ has (greater ∷ old) r) → least ≤ first → least ≤ greater
    → (r : ℕ) → has (new ++ odd) r ≡ true → least ≤ r
least_left old odd new first least greater h n a b r e = at (has_either new odd r e) where
  back : (r ≡ greater) ⊎ (has old r ≡ true) → least ≤ r
  back (inl k) = omega (arith, b, k)
  back (inr k) = let m = h r (has_left old odd r k) in omega (arith, a, m)

  at : (has new r ≡ true) ⊎ (has odd r ≡ true) → least ≤ r
  at (inl k) = back (has_cons old greater r (sym (n r) ∙ k))
  at (inr k) = let m = h r (has_right old odd r k) in omega (arith, a, m)

pub least_right : (even old new : List ℕ) (first least greater : ℕ) → ((r : ℕ) → has (even ++ old) r ≡ true → first ≤ r) → ((r : ℕ) → has new r ≡ has (greater ∷ old) r) → least ≤ first → least ≤ greater
    → (r : ℕ) → has (even ++ new) r ≡ true → least ≤ r
least_right even old new first least greater h n a b r e = at (has_either even new r e) where
  back : (r ≡ greater) ⊎ (has old r ≡ true) → least ≤ r
  back (inl k) = omega (arith, b, k)
  back (inr k) = let m = h r (has_right even old r k) in omega (arith, a, m)

  at : (has even r ≡ true) ⊎ (has new r ≡ true) → least ≤ r
  at (inl k) = let m = h r (has_left even old r k) in omega (arith, a, m)
  at (inr k) = back (has_cons old greater r (sym (n r) ∙ k))
