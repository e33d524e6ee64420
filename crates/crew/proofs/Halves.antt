-- Jobs that are done, one list after another.
use Rattle.std.proofs.Common.{◌≡◌, ℕ, zero, suc, List, [], ◌∷◌, ◌++◌, Some, append-nil, ap, length, refl, subst, sym, ◌∙◌}
use Rattle.std.specs.List.{flat_map}
use Rattle.std.proofs.lemmas.Grind.{flat_map-append}
use Rattle.std.specs.Prelude.{slice_get}
use Rattle.std.proofs.lemmas.List.{length-append}
use native.Mathlib.Omega.{arith}
use Rattle.crew.specs.Jobs.{AreDone}

-- jobs that are done in two lists are done in one
pub both_done : {J : Type 0} (done : J → J → Type 0) (low high low-after high-after : List J) → AreDone done low low-after → AreDone done high high-after → AreDone done (low ++ high) (low-after ++ high-after)
both_done done low high low-after high-after k m = record { long = long; each = both low low-after k.long k.each } where
  long : length (low-after ++ high-after) ≡ length (low ++ high)
  long = omega (arith, k.long, m.long, length-append low high, length-append low-after high-after)

  both : (low low-after : List _) → length low-after ≡ length low → ((i : ℕ) (x y : _) → slice_get low i ≡ Some x → slice_get low-after i ≡ Some y → done x y) → (i : ℕ) (x y : _) → slice_get (low ++ high) i ≡ Some x → slice_get (low-after ++ high-after) i ≡ Some y → done x y
  both [] [] same k i x y there here = m.each i x y there here
  both [] (a ∷ low-after) same k i x y there here = absurd cc
  both (b ∷ low) [] same k i x y there here = absurd cc
  both (b ∷ low) (a ∷ low-after) same k zero x y there here = (let e : b ≡ x = cc in let d : a ≡ y = cc in subst (λ z. done x z) d (subst (λ z. done z a) e (k 0 b a refl refl)))
  both (b ∷ low) (a ∷ low-after) same k (suc i) x y there here = both low low-after (omega (arith, same)) (λ j. k (suc j)) i x y there here

-- what two lists of workers do is what all of them do
pub both_joined : {W J : Type 0} (given : W → List J) (done : J → J → Type 0) (all low high : List W) (all-after low-after high-after : List J) → all ≡ low ++ high → all-after ≡ low-after ++ high-after
    → AreDone done (flat_map given low) low-after → AreDone done (flat_map given high) high-after → AreDone done (flat_map given all) all-after
both_joined given done all low high all-after low-after high-after is are k m =
    let jobs : flat_map given low ++ flat_map given high ≡ flat_map given all = sym (ap (flat_map given) is ∙ flat_map-append given low high) in
    subst (λ js. AreDone done js all-after) jobs (subst (λ js. AreDone done (flat_map given low ++ flat_map given high) js) (sym are) (both_done done _ _ _ _ k m))

-- a lone worker's jobs are all jobs
pub lone_jobs : {W J : Type 0} (given : W → List J) (all : List W) (one : W) → all ≡ one ∷ [] → flat_map given all ≡ given one
lone_jobs given all one is = ap (flat_map given) is ∙ append-nil (given one)
