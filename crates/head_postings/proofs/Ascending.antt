-- Ascending lists: their members decide them, and what stays ascending.
use Rattle.std.proofs.Common.{◌≡◌, ℕ, ◌<◌, Bool, true, false, List, [], ◌∷◌, ◌++◌, ap, sym, ◌∙◌, refl, arith, eqb-true, eq-eqb, inl, inr}
use Rattle.std.specs.Prelude.{◌||◌, ◌&&◌, ◌⊎◌, not, nat_eq}
use Rattle.std.specs.List.{list_any}
use Rattle.head_postings.specs.Slots.{AreAbove, AreBelow, IsAscending, IsUnion}

-- s is among the list
abbrev pub among : ℕ → List ℕ → Bool
among s ts = list_any (nat_eq s) ts

pub or_cases : (a b : Bool) → (a || b) ≡ true → (a ≡ true) ⊎ (b ≡ true)
or_cases true b h = inl refl
or_cases false b h = inr h

pub same_number : (s t : ℕ) → nat_eq s t ≡ true → s ≡ t
same_number s t h = eqb-true s t h

pub itself : (s : ℕ) → nat_eq s s ≡ true
itself s = eq-eqb s s refl

pub among_above : (s t : ℕ) (ts : List ℕ) → AreAbove s ts → among t ts ≡ true → s < t
among_above s t [] a h = absurd cc
among_above s t (u ∷ ts) (a, b) h = at (or_cases (nat_eq t u) (among t ts) h) (among_above s t ts b) where
  at : (nat_eq t u ≡ true) ⊎ (among t ts ≡ true) → (among t ts ≡ true → s < t) → s < t
  at (inl e) deep = let k = same_number t u e in omega arith
  at (inr e) deep = deep e

pub among_below : (s t : ℕ) (ts : List ℕ) → AreBelow s ts → among t ts ≡ true → t < s
among_below s t [] a h = absurd cc
among_below s t (u ∷ ts) (a, b) h = at (or_cases (nat_eq t u) (among t ts) h) (among_below s t ts b) where
  at : (nat_eq t u ≡ true) ⊎ (among t ts ≡ true) → (among t ts ≡ true → t < s) → t < s
  at (inl e) deep = let k = same_number t u e in omega arith
  at (inr e) deep = deep e

-- what is less than each of ys is less than each of those that are among ys
pub below_among : (s : ℕ) (xs ys : List ℕ) → ((t : ℕ) → among t xs ≡ true → among t ys ≡ true) → AreBelow s ys → AreBelow s xs
below_among s [] ys f b = tt
below_among s (x ∷ xs) ys f b =
    (among_below s x ys b (f x (ap (λ c. c || among x xs) (itself x))), below_among s xs ys (λ t h. f t (at (nat_eq t x) (among t xs) h)) b) where
      at : (c d : Bool) → d ≡ true → (c || d) ≡ true
      at true d e = refl
      at false d e = e

above_push : (s t : ℕ) (ts : List ℕ) → AreAbove s ts → s < t → AreAbove s (ts ++ t ∷ [])
above_push s t [] a h = (h, tt)
above_push s t (u ∷ ts) (a, b) h = (a, above_push s t ts b h)

pub ascending_push : (ts : List ℕ) (s : ℕ) → IsAscending ts → AreBelow s ts → IsAscending (ts ++ s ∷ [])
ascending_push [] s a b = (tt, tt)
ascending_push (t ∷ ts) s (a, b) (c, d) = (above_push t s ts a c, ascending_push ts s b d)

-- x is left out where all are greater
without : (test : ℕ → Bool) (x : ℕ) (xs : List ℕ) → AreAbove x xs → list_any (λ y. not (nat_eq x y) && test y) xs ≡ list_any test xs
without test x [] a = refl
without test x (y ∷ ys) (a, b) = ap (λ c. (not c && test y) || list_any (λ y. not (nat_eq x y) && test y) ys) (differs x y a) ∙ ap (λ c. test y || c) (without test x ys b) where
  differs : (m n : ℕ) → m < n → nat_eq m n ≡ false
  differs m n h = at (nat_eq m n) refl where
    at : (c : Bool) → nat_eq m n ≡ c → c ≡ false
    at true e = let k = same_number m n e in absurd (omega arith)
    at false e = refl

-- two ascending lists with the same members are the same
pub one_ascending : (xs ys : List ℕ) → IsAscending xs → IsAscending ys → ((test : ℕ → Bool) → list_any test xs ≡ list_any test ys) → xs ≡ ys
one_ascending [] [] a b h = refl
one_ascending [] (y ∷ ys) a b h = let k : false ≡ true = h (λ z. true) in absurd cc
one_ascending (x ∷ xs) [] a b h = let k : true ≡ false = h (λ z. true) in absurd cc
one_ascending (x ∷ xs) (y ∷ ys) (a, b) (c, d) h = ap (λ z. z ∷ xs) first ∙ ap (λ zs. y ∷ zs) (one_ascending xs ys b d rest) where
  first : x ≡ y
  first = at (or_cases (nat_eq x y) (among x ys) (sym (h (nat_eq x)) ∙ ap (λ e. e || among x xs) (itself x))) (or_cases (nat_eq y x) (among y xs) (h (nat_eq y) ∙ ap (λ e. e || among y ys) (itself y))) where
    at : (nat_eq x y ≡ true) ⊎ (among x ys ≡ true) → (nat_eq y x ≡ true) ⊎ (among y xs ≡ true) → x ≡ y
    at (inl e) q = same_number x y e
    at (inr e) (inl f) = sym (same_number y x f)
    at (inr e) (inr f) = let k : y < x = among_above y x ys c e in let m : x < y = among_above x y xs a f in absurd (omega arith)

  left_out : (test : ℕ → Bool) (z : ℕ) (zs : List ℕ) → AreAbove z zs → list_any (λ u. not (nat_eq z u) && test u) (z ∷ zs) ≡ list_any test zs
  left_out test z zs g = ap (λ e. (not e && test z) || list_any (λ u. not (nat_eq z u) && test u) zs) (itself z) ∙ without test z zs g

  rest : (test : ℕ → Bool) → list_any test xs ≡ list_any test ys
  rest test =
      sym (left_out test x xs a)
      ∙ h (λ u. not (nat_eq x u) && test u)
      ∙ ap (λ z. list_any (λ u. not (nat_eq z u) && test u) (y ∷ ys)) first
      ∙ left_out test y ys c

pub union_is : (xs ys us vs : List ℕ) → IsUnion xs ys us → IsUnion xs ys vs → us ≡ vs
union_is xs ys us vs a b = one_ascending us vs a.0 b.0 (λ test. a.1 test ∙ sym (b.1 test))
