-- To sort a list and then to let equal neighbours go leaves its elements, ascending and without repeats.
use Rattle.std.proofs.Common.{◌≡◌, zero, suc, inl, inr, Bool, true, List, [], ◌∷◌, map, refl, sym, ap, ◌∙◌, arith}
use Rattle.std.specs.List.{Contains, dedup, AllByRecursion}
use Rattle.std.specs.List.Sorted.{IsPermutation, IsSorted, IsStrictlySortedBy}
use Rattle.std.specs.Cmp.{IsTotalOrder, IsEquivalence}
use Rattle.std.specs.FinMap.{IsAntisymmetric}
use Rattle.std.specs.Ordering.{eq_by_cmp, is_eq}
use Rattle.std.specs.declared.cmp.Ordering.{Ordering}
use Rattle.std.specs.declared.cmp.Ordering.TheVariants.{Less, Equal, Greater}
use Rattle.std.proofs.lemmas.Cmp.{on_total}
use Rattle.std.proofs.lemmas.List.Kept.{Any-dedup, Contains-from_dedup, IsStrictlySortedBy-dedup}
use Rattle.std.proofs.lemmas.List.Sorted.{Contains-permutation, IsPermutation-sym}
use Rattle.index_text.specs.Sets.{ascending}
use Rattle.index_text.proofs.Ranks.{IsBefore, IsAscending, Has, same_ascending, ascending-is, ascending-has, ascending-of}
use Rattle.index_text.proofs.Orders.{strict, as_order}

module _ {X K : Type 0} (key : X → K) (R : K → K → Ordering) (order : IsTotalOrder R) (exact : IsAntisymmetric R) where
  pub Has-from_contains : (xs : List X) (x : X) → Contains xs x → Has R (key x) (map key xs)
  Has-from_contains [] x (k, lt, e) = absurd (omega (arith, lt))
  Has-from_contains (y ∷ ys) x (zero, lt, e) = inl (ap key (sym e))
  Has-from_contains (y ∷ ys) x (suc k, lt, e) = inr (Has-from_contains ys x (k, (omega (arith, lt)), e))

  pub Contains-from_has : (xs : List X) (z : K) → Has R z (map key xs) → (x : X) × Contains xs x × (z ≡ key x)
  Contains-from_has [] z h = absurd h
  Contains-from_has (y ∷ ys) z (inl e) = (y, (0, (omega arith), refl), e)
  Contains-from_has (y ∷ ys) z (inr m) =
      let more = Contains-from_has ys z m in
      (more.0, (suc more.1.0, (omega (arith, more.1.1)), more.1.2), more.2)

  before : (x : X) (ys : List X) → AllByRecursion (λ y. R (key x) (key y) ≡ Less) ys → IsBefore R (key x) (map key ys)
  before x [] h = tt
  before x (y ∷ ys) h = (h.0, before x ys h.1)

  pub IsAscending-keys : (xs : List X) → IsStrictlySortedBy (λ x y. R (key x) (key y)) xs → IsAscending R (map key xs)
  unfolding IsStrictlySortedBy
  IsAscending-keys [] h = tt
  IsAscending-keys (x ∷ xs) h = (before x xs h.0, IsAscending-keys xs h.1)

  equal_is : (o : Ordering) → is_eq o ≡ true → o ≡ Equal
  equal_is Less e = absurd cc
  equal_is Equal e = refl
  equal_is Greater e = absurd cc

  pub distinct_is : (E : X → X → Bool) → IsEquivalence E → ((x y : X) → E x y ≡ eq_by_cmp R (key x) (key y))
      → (xs ys : List X) → IsPermutation xs ys → IsSorted (λ x y. R (key x) (key y)) ys → map key (dedup E ys) ≡ ascending R (map key xs)
  distinct_is E equiv ties xs ys moved sorted =
      same_ascending R (strict order) (map key (dedup E ys)) (ascending R (map key xs))
      (IsAscending-keys (dedup E ys) (IsStrictlySortedBy-dedup (on_total key order) ties ys sorted))
      (ascending-is R (as_order order) (map key xs)) there back
    where
      there : (z : K) → Has R z (map key (dedup E ys)) → Has R z (ascending R (map key xs))
      there z h =
          let x = Contains-from_has (dedup E ys) z h in
          let here : Has R (key x.0) (map key xs) = Has-from_contains xs x.0 (Contains-permutation ys xs x.0 (IsPermutation-sym xs ys moved) (Contains-from_dedup E ys x.0 x.1)) in
          ascending-has R exact z (map key xs) (rw x.2 here)

      back : (z : K) → Has R z (ascending R (map key xs)) → Has R z (map key (dedup E ys))
      back z h =
          let x = Contains-from_has xs z (ascending-of R z (map key xs) h) in
          let y = Any-dedup equiv ys x.0 (Contains-permutation xs ys x.0 moved x.1) in
          let same : key x.0 ≡ key y.1 = exact (key x.0) (key y.1) (equal_is (R (key x.0) (key y.1)) (sym (ties x.0 y.1) ∙ y.4)) in
          let here : Has R (key y.1) (map key (dedup E ys)) = Has-from_contains (dedup E ys) y.1 (y.0, y.2, y.3) in
          rw (x.2 ∙ same) here
