-- Labels that were put into another order are the same labels.
use Rattle.std.proofs.Common.{◌≡◌, List, map, sym, subst}
use Rattle.std.specs.List.Sorted.{IsPermutation}
use Rattle.std.specs.Cmp.{IsTotalOrder}
use Rattle.std.specs.FinMap.{IsAntisymmetric}
use Rattle.std.specs.declared.cmp.Ordering.{Ordering}
use Rattle.std.proofs.lemmas.List.{map-id}
use Rattle.std.proofs.lemmas.List.Sorted.{Contains-permutation, IsPermutation-sym}
use Rattle.index_text.specs.Sets.{ascending}
use Rattle.index_text.proofs.Ranks.{Has, same_ascending, ascending-is, ascending-has, ascending-of}
use Rattle.index_text.proofs.Orders.{strict, as_order}
use Rattle.index_text.proofs.Distinct.{Has-from_contains, Contains-from_has}

module _ {K : Type 0} (R : K → K → Ordering) (order : IsTotalOrder R) (exact : IsAntisymmetric R) where
  Has-moved : (xs ys : List K) → IsPermutation xs ys → (z : K) → Has R z xs → Has R z ys
  Has-moved xs ys moved z h =
      let x = Contains-from_has (λ (k : K). k) R order exact xs z (subst (Has R z) (sym (map-id xs)) h) in
      let here : Has R x.0 (map (λ (k : K). k) ys) = Has-from_contains (λ (k : K). k) R order exact ys x.0 (Contains-permutation xs ys x.0 moved x.1) in
      rw x.2 (subst (Has R x.0) (map-id ys) here)

  pub ascending-moved : (xs ys : List K) → IsPermutation xs ys → ascending R ys ≡ ascending R xs
  ascending-moved xs ys moved =
      same_ascending R (strict order) (ascending R ys) (ascending R xs) (ascending-is R (as_order order) ys) (ascending-is R (as_order order) xs)
      (λ z h. ascending-has R exact z xs (Has-moved ys xs (IsPermutation-sym xs ys moved) z (ascending-of R z ys h)))
      (λ z h. ascending-has R exact z ys (Has-moved xs ys moved z (ascending-of R z xs h)))
