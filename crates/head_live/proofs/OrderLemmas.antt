-- Lists in order: those with the same elements are one, and samples are in the order of their slots and times.
use Rattle.std.proofs.Common.{◌≡◌, ℕ, suc, ◌+◌, ◌<◌, inl, inr, Bool, true, false, true≢false, List, [], ◌∷◌, ◌++◌, All, AllPairs, IsPermutation, IsSorted, Ordering, Less, Equal, Greater, is_lt, nat_cmp, int_cmp, ap, ap₂, sym, ◌∙◌, refl, arith, get_or, map, sum_by}
use Rattle.std.specs.Cmp.{IsTotalOrder}
use Rattle.std.specs.Ordering.{ordering_reverse, ordering_then}
use Rattle.std.proofs.lemmas.Cmp.{by_ranked, int_cmp_total, int_ranked, nat_cmp_total, on_total, ranked, then_total, tied_itself}
use Rattle.std.proofs.lemmas.Int.{ints}
use Rattle.std.proofs.lemmas.List.Elements.{All-append, All-cons, All-head, All-map, All-nil, All-tail, All-weaker}
use Rattle.std.proofs.lemmas.List.Kept.{AllPairs-cons}
use Rattle.std.proofs.lemmas.List.Sorted.{ranks_by, sorted_far, sum_by-IsPermutation}
use Rattle.std.proofs.lemmas.List.Sums.{sum_by-cons}
use Rattle.std.proofs.lemmas.Map.Lookups.{exact_signed, exact_unsigned}
use Rattle.head_column.specs.Samples.{Sample}
use Rattle.head_column.specs.Samples.{Rises}
use Rattle.head_live.specs.declared.placed.PlacedSample.{PlacedSample}
use Rattle.head_live.specs.Placed.{IsBefore, placed}

abbrev one_if : Bool → ℕ
one_if true = 1
one_if false = 0

module _ {X : Type 0} {cmp : X → X → Ordering} (order : IsTotalOrder cmp) (exact : (x y : X) → cmp x y ≡ Equal → x ≡ y) where
  -- no later element is less
  abbrev pub IsInOrder : List X → Type 0
  IsInOrder = AllPairs (λ x y. is_lt (cmp y x) ≡ false)

  -- 1 where x is less than y
  abbrev less_than : X → X → ℕ
  less_than y x = one_if (is_lt (cmp x y))

  none_less : (y : X) (xs : List X) → All (λ x. is_lt (cmp x y) ≡ false) xs → sum_by (less_than y) xs ≡ 0
  none_less y [] h = refl
  none_less y (x ∷ xs) h =
      sum_by-cons (less_than y) x xs
      ∙ ap₂ ◌+◌ (ap one_if (All-head (λ z. is_lt (cmp z y) ≡ false) x xs h)) (none_less y xs (All-tail (λ z. is_lt (cmp z y) ≡ false) x xs h))

  not_less : (b : Bool) → one_if b ≡ 0 → b ≡ false
  not_less true e = absurd (omega (arith, e))
  not_less false e = refl

  -- the first of a list in order is no greater than an element of another one with the same elements
  least : (x y : X) (xs ys : List X) → IsInOrder (y ∷ ys) → ((f : X → ℕ) → sum_by f (x ∷ xs) ≡ sum_by f (y ∷ ys)) → is_lt (cmp x y) ≡ false
  least x y xs ys up same =
      let all : All (λ z. is_lt (cmp z y) ≡ false) (y ∷ ys) = All-cons (λ z. is_lt (cmp z y) ≡ false) y ys (ap is_lt (tied_itself order y)) (λ k d lt. up 0 (suc k) d (omega arith) (omega arith)) in
      not_less (is_lt (cmp x y)) (omega (arith, none_less y (y ∷ ys) all, sum_by-cons (less_than y) x xs, same (less_than y)))

  one_first : (x y : X) → is_lt (cmp x y) ≡ false → is_lt (cmp y x) ≡ false → x ≡ y
  one_first x y h k = at (cmp x y) refl h where
    at : (o : Ordering) → cmp x y ≡ o → is_lt o ≡ false → x ≡ y
    at Less e l = absurd (true≢false l)
    at Equal e l = exact x y e
    at Greater e l = absurd (true≢false (sym (ap is_lt (order.antisymm y x ∙ ap ordering_reverse e)) ∙ k))

  one_order : (xs ys : List X) → IsInOrder xs → IsInOrder ys → ((f : X → ℕ) → sum_by f xs ≡ sum_by f ys) → xs ≡ ys
  one_order [] [] up on same = refl
  one_order [] (y ∷ ys) up on same = absurd (omega (arith, same (λ _. 1), sum_by-cons (λ _. 1) y ys))
  one_order (x ∷ xs) [] up on same = absurd (omega (arith, same (λ _. 1), sum_by-cons (λ _. 1) x xs))
  one_order (x ∷ xs) (y ∷ ys) up on same =
      let first : x ≡ y = one_first x y (least x y xs ys on same) (least y x ys xs up (λ f. sym (same f))) in
      let rest : (f : X → ℕ) → sum_by f xs ≡ sum_by f ys = λ f. omega (arith, same f, sum_by-cons f x xs, sum_by-cons f y ys, ap f first) in
      ap₂ ◌∷◌ first
      (one_order xs ys (λ i j d lt within. up (suc i) (suc j) d (omega arith) (omega arith)) (λ i j d lt within. on (suc i) (suc j) d (omega arith) (omega arith)) rest)

  -- a sorted list is the list in order that has its elements
  pub one_sorted : (xs ys : List X) → IsSorted cmp xs → IsInOrder ys → IsPermutation xs ys → xs ≡ ys
  one_sorted xs ys up on same =
      one_order xs ys (λ i j d lt within. sorted_far (λ a b. is_lt (cmp a b)) (ranks_by order (λ x. x)) xs up i j d (omega arith) within) on
      (λ f. sym (sum_by-IsPermutation f xs ys same))

-- ---- placed samples

-- the order of slots, then times, then values
abbrev pub placed_cmp : PlacedSample → PlacedSample → Ordering
placed_cmp a b = ordering_then (nat_cmp a.slot b.slot) (ordering_then (int_cmp a.time b.time) (int_cmp a.value b.value))

pub placed_total : IsTotalOrder placed_cmp
placed_total = then_total (on_total (λ (s : PlacedSample). s.slot) nat_cmp_total) (then_total (on_total (λ (s : PlacedSample). s.time) int_cmp_total) (on_total (λ (s : PlacedSample). s.value) int_cmp_total))

-- equal numbers are equal samples
pub placed_whole : (a b : PlacedSample) → a.slot ≡ b.slot → a.time ≡ b.time → a.value ≡ b.value → a ≡ b
placed_whole a b p q r =
    ap (λ n. record { slot = n; time = a.time; value = a.value }) p
    ∙ (ap (λ t. record { slot = b.slot; time = t; value = a.value }) q ∙ ap (λ v. record { slot = b.slot; time = b.time; value = v }) r)

pub placed_exact : (a b : PlacedSample) → placed_cmp a b ≡ Equal → a ≡ b
placed_exact a b e =
    let slot = both (nat_cmp a.slot b.slot) _ e in
    let rest = both (int_cmp a.time b.time) (int_cmp a.value b.value) slot.1 in
    placed_whole a b (exact_unsigned a.slot b.slot slot.0) (exact_signed a.time b.time rest.0) (exact_signed a.value b.value rest.1) where
      both : (o p : Ordering) → ordering_then o p ≡ Equal → (o ≡ Equal) × (p ≡ Equal)
      both Less p h = absurd cc
      both Equal p h = (refl, h)
      both Greater p h = absurd cc

-- what is before a sample is not greater
pub before_not_less : (a b : PlacedSample) → IsBefore a b → is_lt (placed_cmp b a) ≡ false
before_not_less a b (inl slot) = ap (λ o. is_lt (ordering_then o (ordering_then (int_cmp b.time a.time) (int_cmp b.value a.value)))) over where
  over : nat_cmp b.slot a.slot ≡ Greater
  over = by_ranked _ _ _ (nat_cmp b.slot a.slot) (ranked b.slot a.slot (nat_cmp b.slot a.slot) refl) (λ _ h. absurd (omega (arith, slot, h))) (λ _ h. absurd (omega (arith, slot, h))) (λ e _. e)
before_not_less a b (inr (slot, time)) = ap₂ (λ o p. is_lt (ordering_then o (ordering_then p (int_cmp b.value a.value)))) same over where
  same : nat_cmp b.slot a.slot ≡ Equal
  same = ap (λ n. nat_cmp b.slot n) slot ∙ tied_itself nat_cmp_total b.slot

  over : int_cmp b.time a.time ≡ Greater
  over = by_ranked _ _ _ (int_cmp b.time a.time) (int_ranked b.time a.time (int_cmp b.time a.time) refl) (λ _ h. absurd (omega (arith, ints, time, h))) (λ _ h. absurd (omega (arith, ints, time, h))) (λ e _. e)

-- samples that are sorted are those that are in order with the same elements
pub one_placed : (xs ys : List PlacedSample) → IsSorted placed_cmp xs → AllPairs IsBefore ys → IsPermutation xs ys → xs ≡ ys
one_placed xs ys up before same = one_sorted placed_total placed_exact xs ys up (λ i j d lt within. before_not_less (get_or ys i d) (get_or ys j d) (before i j d lt within)) same

-- ---- the samples of one slot after another

pairs_append : {A : Type 0} (R : A → A → Type 0) (xs ys : List A) → AllPairs R xs → All (λ x. All (R x) ys) xs → AllPairs R ys → AllPairs R (xs ++ ys)
pairs_append R [] ys h k l = l
pairs_append R (x ∷ xs) ys h k l =
    AllPairs-cons R x (xs ++ ys)
    (All-append (R x) xs ys (λ j d lt. h 0 (suc j) d (omega arith) (omega arith)) (All-head (λ z. All (R z) ys) x xs k))
    (pairs_append R xs ys (λ i j d lt within. h (suc i) (suc j) d (omega arith) (omega arith)) (All-tail (λ z. All (R z) ys) x xs k) l)

rest_rises : (x : Sample) (xs : List Sample) → Rises (x ∷ xs) → Rises xs
rest_rises x [] h = tt
rest_rises x (y ∷ xs) h = h.1

second_rises : (s x : Sample) (xs : List Sample) → Rises (s ∷ x ∷ xs) → Rises (s ∷ xs)
second_rises s x [] h = tt
second_rises s x (y ∷ xs) h = (omega (arith, ints, h.0, h.1.0), h.1.1)

first_before : (slot : ℕ) (s : Sample) (xs : List Sample) → Rises (s ∷ xs) → All (IsBefore (placed slot s)) (map (placed slot) xs)
first_before slot s [] h = All-nil (IsBefore (placed slot s))
first_before slot s (x ∷ xs) h = All-cons (IsBefore (placed slot s)) (placed slot x) (map (placed slot) xs) (inr (refl, h.0)) (first_before slot s xs (second_rises s x xs h))

rising_before : (slot : ℕ) (xs : List Sample) → Rises xs → AllPairs IsBefore (map (placed slot) xs)
rising_before slot [] h = λ i j d lt within. absurd (omega (arith, within))
rising_before slot (x ∷ xs) h = AllPairs-cons IsBefore (placed slot x) (map (placed slot) xs) (first_before slot x xs h) (rising_before slot xs (rest_rises x xs h))

-- samples of lower slots, and then those of this one
pub before_more : (slot : ℕ) (old : List PlacedSample) (xs : List Sample) → AllPairs IsBefore old → All (λ s. s.slot < slot) old → Rises xs → AllPairs IsBefore (old ++ map (placed slot) xs)
before_more slot old xs order below rises =
    pairs_append IsBefore old (map (placed slot) xs) order
    (All-weaker (λ s. s.slot < slot) (λ a. All (IsBefore a) (map (placed slot) xs)) (λ a h. All-map (IsBefore a) (placed slot) xs (λ k d lt. inl h)) old below)
    (rising_before slot xs rises)

pub below_more : (slot : ℕ) (old : List PlacedSample) (xs : List Sample) → All (λ s. s.slot < slot) old → All (λ s. s.slot < slot + 1) (old ++ map (placed slot) xs)
below_more slot old xs below =
    All-append (λ s. s.slot < slot + 1) old (map (placed slot) xs)
    (All-weaker (λ s. s.slot < slot) (λ s. s.slot < slot + 1) (λ a h. omega (arith, h)) old below)
    (All-map (λ s. s.slot < slot + 1) (placed slot) xs (λ k d lt. omega arith))
