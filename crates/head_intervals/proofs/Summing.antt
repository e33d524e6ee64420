-- Each of the times that intervals part is counted once.
use Rattle.std.proofs.Common.{◌≡◌, inl, inr, ℕ, zero, suc, ◌+◌, ◌<◌, ◌≤◌, cond, List, [], ◌∷◌, length, get_or, take, refl, sym, ap, ◌∙◌, arith}
use Rattle.std.specs.Prelude.{ℤ, ◌≤ℤ◌, All, count_by, sum}
use Rattle.std.proofs.lemmas.Bool.{cases_order, cond-true, cond-false, false_from_ne_true}
use Rattle.std.proofs.lemmas.List.{take_all}
use Rattle.std.proofs.lemmas.List.Elements.{All-head, All-tail}
use Rattle.std.proofs.lemmas.List.Sums.{sum_by-cons, sum_by_more}
use Rattle.head_intervals.specs.declared.intervals.Intervals.{Intervals}
use Rattle.head_intervals.specs.Intervals.{AreCounts, Parts, is_in}
use Rattle.head_intervals.proofs.Placing.{one}

-- the sum of the first numbers
sum_to : (ℕ → ℕ) → ℕ → ℕ
sum_to f zero = 0
sum_to f (suc n) = sum_to f n + f n

nothing : (f : ℕ → ℕ) (n : ℕ) → ((k : ℕ) → k < n → f k ≡ 0) → sum_to f n ≡ 0
unfolding sum_to
nothing f zero h = refl
nothing f (suc n) h = omega (arith, nothing f n (λ k lt. h k (omega arith)), h n (omega arith))

both : (f g h : ℕ → ℕ) (n : ℕ) → ((k : ℕ) → k < n → f k ≡ g k + h k) → sum_to f n ≡ sum_to g n + sum_to h n
unfolding sum_to
both f g h zero e = refl
both f g h (suc n) e = omega (arith, both f g h n (λ k lt. e k (omega arith)), e n (omega arith))

alike : (f g : ℕ → ℕ) (n : ℕ) → ((k : ℕ) → k < n → f k ≡ g k) → sum_to f n ≡ sum_to g n
unfolding sum_to
alike f g zero e = refl
alike f g (suc n) e = omega (arith, alike f g n (λ k lt. e k (omega arith)), e n (omega arith))

single : (f : ℕ → ℕ) (n place : ℕ) → place < n → f place ≡ 1 → ((k : ℕ) → k < n → (k ≡ place → ⊥) → f k ≡ 0) → sum_to f n ≡ 1
unfolding sum_to
single f zero place lt here other = absurd (omega arith)
single f (suc n) place lt here other =
    elim (cases_order place n) [
      | inl same ↦ (
          let before : sum_to f n ≡ 0 = nothing f n (λ k less. other k (omega arith) (λ e. absurd (omega arith))) in
          let last : f n ≡ 1 = ap f (sym same) ∙ here in
          omega (arith, before, last)
          )
      | inr (inl less) ↦ (
          let before : sum_to f n ≡ 1 = single f n place less here (λ k below. other k (omega arith)) in
          let last : f n ≡ 0 = other n (omega arith) (λ e. absurd (omega arith)) in
          omega (arith, before, last)
          )
      | inr (inr more) ↦ absurd (omega arith)
    ]

front : (cs : List ℕ) (n : ℕ) → n ≤ length cs → sum (take n cs) ≡ sum_to (λ k. get_or cs k 0) n
unfolding sum_to
front cs zero h = refl
front cs (suc n) h =
    let more : sum (take (n + 1) cs) ≡ sum (take n cs) + get_or cs n 0 = sum_by_more (λ (x : ℕ). x) cs n 0 (omega arith) in
    let next : sum (take (suc n) cs) ≡ sum (take (n + 1) cs) = ap (λ (m : ℕ). sum (take m cs)) (let e : suc n ≡ n + 1 = omega arith in e) in
    omega (arith, more, next, front cs n (omega arith))

all_of : (cs : List ℕ) → sum cs ≡ sum_to (λ k. get_or cs k 0) (length cs)
all_of cs = ap sum (sym (take_all (length cs) cs (omega arith))) ∙ front cs (length cs) (omega arith)

module _ (first last : ℤ) (i : Intervals) (parts : Parts first last i) where
  mark : ℤ → ℕ → ℕ
  mark t k = cond (is_in i k t) 1 0

  marked : (t : ℤ) → first ≤ℤ t → t ≤ℤ last → sum_to (mark t) i.count ≡ 1
  unfolding mark
  marked t from to =
      let at = parts.each t from to in
      single (mark t) i.count at.0 at.1 (cond-true (is_in i at.0 t) 1 0 at.2)
      (λ k lt away. cond-false (is_in i k t) 1 0 (false_from_ne_true (is_in i k t) (λ there. away (one i k at.0 t there at.2))))

  each_once : (times : List ℤ) → All (λ t. (first ≤ℤ t) × (t ≤ℤ last)) times → sum_to (λ k. count_by (is_in i k) times) i.count ≡ length times
  unfolding mark
  each_once [] h = nothing (λ k. count_by (is_in i k) []) i.count (λ k lt. refl)
  each_once (t ∷ ts) h =
      let here = All-head (λ (t : ℤ). (first ≤ℤ t) × (t ≤ℤ last)) t ts h in
      let parted = both (λ k. count_by (is_in i k) (t ∷ ts)) (mark t) (λ k. count_by (is_in i k) ts) i.count (λ k lt. sum_by-cons (λ (u : ℤ). cond (is_in i k u) 1 0) t ts) in
      let rest = each_once ts (All-tail (λ (t : ℤ). (first ≤ℤ t) × (t ≤ℤ last)) t ts h) in
      omega (arith, parted, rest, marked t here.0 here.1)

  pub whole : (times : List ℤ) (counts : List ℕ) → All (λ t. (first ≤ℤ t) × (t ≤ℤ last)) times → AreCounts i times counts → sum counts ≡ length times
  whole times counts h are =
      all_of counts
      ∙ ap (sum_to (λ k. get_or counts k 0)) are.as_many
      ∙ alike (λ k. get_or counts k 0) (λ k. count_by (is_in i k) times) i.count are.each
      ∙ each_once times h
