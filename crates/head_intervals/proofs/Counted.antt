-- Counts of times, changed.
use Rattle.std.proofs.Common.{◌≡◌, inl, inr, ℕ, ◌+◌, ◌<◌, cond, List, [], ◌∷◌, ◌++◌, length, get_or, sym, ap, subst, ◌∙◌, arith}
use Rattle.std.specs.Prelude.{ℤ, Option, None, Some, Result, Ok, Err, OnOk, count_by, slice_set}
use Rattle.std.specs.Option.{SomeIff}
use Rattle.std.proofs.lemmas.Bool.{cases_eq, cond-true, cond-false, false_from_ne_true}
use Rattle.std.proofs.lemmas.List.{get_or-set_other, get_or-set_same, length-set}
use Rattle.std.proofs.lemmas.List.Sums.{sum_by-append, sum_by_push}
use Rattle.head_intervals.specs.declared.intervals.Intervals.{Intervals}
use Rattle.head_intervals.specs.Intervals.{AreCounts, IsIn, is_in}
use Rattle.head_intervals.proofs.Placing.{one}

module _ (i : Intervals) (times : List ℤ) (t : ℤ) (counts : List ℕ) (are : AreCounts i times counts) where
  abbrev mark : ℕ → ℕ
  mark k = cond (is_in i k t) 1 0

  more : (k : ℕ) → count_by (is_in i k) (times ++ t ∷ []) ≡ count_by (is_in i k) times + mark k
  more k = sum_by_push (λ (u : ℤ). cond (is_in i k u) 1 0) times t

  zero_at : (k : ℕ) → (IsIn i k t → ⊥) → mark k ≡ 0
  zero_at k away = cond-false (is_in i k t) 1 0 (false_from_ne_true (is_in i k t) away)

  one_at : (k : ℕ) → IsIn i k t → mark k ≡ 1
  one_at k there = cond-true (is_in i k t) 1 0 there

  same : (k : ℕ) → k < i.count → (IsIn i k t → ⊥) → get_or counts k 0 ≡ count_by (is_in i k) (times ++ t ∷ [])
  same k lt away = let none = zero_at k away in omega (arith, are.each k lt, more k, none)

  -- a time that no interval has
  pub passed : ((k : ℕ) → k < i.count → IsIn i k t → ⊥) → AreCounts i (times ++ t ∷ []) counts
  passed away = record { as_many = are.as_many; each = λ k lt. same k lt (away k lt) }

  -- a time that an interval has
  pub counted : (place n : ℕ) → place < i.count → IsIn i place t → n ≡ get_or counts place 0 + 1 → AreCounts i (times ++ t ∷ []) (slice_set counts place n)
  counted place n within there is = record { as_many = length-set counts place n ∙ are.as_many; each = at } where
    at : (k : ℕ) → k < i.count → get_or (slice_set counts place n) k 0 ≡ count_by (is_in i k) (times ++ t ∷ [])
    at k lt =
        elim (cases_eq k place) [
          | inl here ↦ (
              let set : get_or (slice_set counts place n) k 0 ≡ n = ap (λ (j : ℕ). get_or (slice_set counts place n) j 0) here ∙ get_or-set_same counts place n 0 (omega (arith, are.as_many, within)) in
              let was : get_or counts k 0 ≡ get_or counts place 0 = ap (λ (j : ℕ). get_or counts j 0) here in
              let marks = one_at k (subst (λ (j : ℕ). IsIn i j t) (sym here) there) in
              omega (arith, set, was, marks, is, are.each k lt, more k)
              )
          | inr away ↦ get_or-set_other counts place k n 0 away ∙ same k lt (λ has. away (one i k place t has there))
        ]

-- the counts of both these and those times
pub joined : (i : Intervals) (xs ys : List ℤ) (ms ns cs : List ℕ) → AreCounts i xs ms → AreCounts i ys ns → length cs ≡ length ms → ((k : ℕ) → get_or cs k 0 ≡ get_or ms k 0 + get_or ns k 0) → AreCounts i (xs ++ ys) cs
joined i xs ys ms ns cs a b len sums = record {
  as_many = len ∙ a.as_many;
  each = λ k lt. let parted = sum_by-append (λ (u : ℤ). cond (is_in i k u) 1 0) xs ys in omega (arith, sums k, a.each k lt, b.each k lt, parted);
}

-- what a sum that fits is
pub sum_told : (o : Option ℕ) (P : Type 0) (n m : ℕ) → SomeIff o P m → o ≡ Some n → n ≡ m
sum_told None P n m h e = absurd cc
sum_told (Some x) P n m h e = (let first : x ≡ n = cc in sym first ∙ h.1)

pub on_ok : {X E : Type 0} (r : Result X E) (P Q : Type 0) → OnOk r P → (P → Q) → OnOk r Q
on_ok (Ok x) P Q h f = f h
on_ok (Err e) P Q h f = tt
