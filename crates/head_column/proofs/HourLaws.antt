-- Hours: their bounds, and the edges.
use Rattle.std.proofs.Common.{◌≡◌, ◌⊎◌, inl, inr, Bool, true, false, refl, ap, subst, arith}
use Rattle.std.specs.Prelude.{ℤ, pos, negsuc, ◌+ℤ◌, ◌-ℤ◌, ◌≤ℤ◌, ◌<ℤ◌, ◌&&◌, ◌↔◌, IsTrue, FitsSigned, int_le, int_lt}
use Rattle.std.specs.Int.{w64}
use Rattle.std.proofs.lemmas.Int.{ints, by_lt_z}
use Rattle.head_column.specs.Hours.{hour_start, is_in_hour, HasTime, IsEdge}

pub both : (a b : Bool) → a ≡ true → b ≡ true → IsTrue (a && b)
both true true p q = refl
both true false p q = absurd cc
both false b p q = absurd cc

both_of : (a b : Bool) → IsTrue (a && b) → (a ≡ true) × (b ≡ true)
both_of true true h = (refl, refl)
both_of true false h = absurd cc
both_of false b h = absurd cc

pub le_true : (a b : ℤ) → a ≤ℤ b → int_le a b ≡ true
le_true a b h = grind (arith, ints)

pub lt_true : (a b : ℤ) → a <ℤ b → int_lt a b ≡ true
lt_true a b h = grind (arith, ints)

le_from : (a b : ℤ) → int_le a b ≡ true → a ≤ℤ b
le_from a b h = grind (arith, ints)

pub lt_from : (a b : ℤ) → int_lt a b ≡ true → a <ℤ b
lt_from a b h = grind (arith, ints)

pub in_hour : (k t : ℤ) → hour_start k ≤ℤ t → t <ℤ hour_start (k +ℤ pos 1) → IsTrue (is_in_hour k t)
in_hour k t p q = both (int_le (hour_start k) t) (int_lt t (hour_start (k +ℤ pos 1))) (le_true (hour_start k) t p) (lt_true t (hour_start (k +ℤ pos 1)) q)

pub begun : (k t : ℤ) → IsTrue (is_in_hour k t) → hour_start k ≤ℤ t
begun k t h = le_from (hour_start k) t (both_of (int_le (hour_start k) t) (int_lt t (hour_start (k +ℤ pos 1))) h).0

pub not_over : (k t : ℤ) → IsTrue (is_in_hour k t) → t <ℤ hour_start (k +ℤ pos 1)
not_over k t h = lt_from t (hour_start (k +ℤ pos 1)) (both_of (int_le (hour_start k) t) (int_lt t (hour_start (k +ℤ pos 1))) h).1

pub one_hour : (k l t : ℤ) → IsTrue (is_in_hour k t) → IsTrue (is_in_hour l t) → k ≡ l
one_hour k l t p q =
    let a = begun k t p in
    let b = not_over k t p in
    let c = begun l t q in
    let d = not_over l t q in
    omega (arith, ints, a, b, c, d)

-- ---- the edges

fits_from : (t : ℤ) → negsuc 9223372036854775807 ≤ℤ t → t ≤ℤ pos 9223372036854775807 → FitsSigned w64 t
fits_from (pos n) p q = record { sfits = omega (arith, ints) }
fits_from (negsuc n) p q = record { sfits = omega (arith, ints) }

pub above_least : (t : ℤ) → FitsSigned w64 t → negsuc 9223372036854775807 ≤ℤ t
above_least (pos n) h = omega (arith, ints)
above_least (negsuc n) h = omega (arith, ints, h.sfits)

pub below_greatest : (t : ℤ) → FitsSigned w64 t → t ≤ℤ pos 9223372036854775807
below_greatest (pos n) h = omega (arith, ints, h.sfits)
below_greatest (negsuc n) h = omega (arith, ints)

-- an hour with a time of 64 bits is between the edges
pub record IsBetween (k : ℤ) : Type 0 where
  pub from : negsuc 2562047788015 ≤ℤ k
  pub to : k ≤ℤ pos 2562047788015

pub between : (k : ℤ) → HasTime k → IsBetween k
between k (t, fits, h) =
    let a = above_least t fits in
    let b = below_greatest t fits in
    let c = begun k t h in
    let d = not_over k t h in
    record { from = omega (arith, ints, a, b, c, d); to = omega (arith, ints, a, b, c, d) }

pub has_start : (k : ℤ) → negsuc 2562047788015 <ℤ k → k ≤ℤ pos 2562047788015 → HasTime k
has_start k p q = (hour_start k, fits_from (hour_start k) (omega (arith, ints)) (omega (arith, ints)), in_hour k (hour_start k) (omega (arith, ints)) (omega (arith, ints)))

pub first_has_time : HasTime (negsuc 2562047788015)
first_has_time = (negsuc 9223372036854775807, fits_from (negsuc 9223372036854775807) (omega (arith, ints)) (omega (arith, ints)), in_hour (negsuc 2562047788015) (negsuc 9223372036854775807) (omega (arith, ints)) (omega (arith, ints)))

pub has_time : (k : ℤ) → IsBetween k → HasTime k
has_time k b =
    by_lt_z (negsuc 2562047788015) k
    (λ above. has_start k above b.to)
    (λ below. let first : negsuc 2562047788015 ≡ k = omega (arith, ints, b.from) in subst HasTime first first_has_time)

-- the first hour begins before the least time, and the last one ends past the greatest
pub is_first : (k : ℤ) → k ≡ negsuc 2562047788015 → IsEdge k
is_first k e =
    let start : hour_start k ≡ negsuc 9223372036857599999 = ap hour_start e in
    let low : FitsSigned w64 (hour_start k) → ⊥ = (λ (f : FitsSigned w64 (hour_start k)). let a = above_least (hour_start k) f in absurd (omega (arith, ints, a, start))) in
    (hour_start k, low, in_hour k (hour_start k) (omega (arith, ints)) (omega (arith, ints)))

pub is_last : (k : ℤ) → k ≡ pos 2562047788015 → IsEdge k
is_last k e =
    let t : ℤ = pos 9223372036857599999 in
    let high : FitsSigned w64 t → ⊥ = (λ (f : FitsSigned w64 t). let a = below_greatest t f in absurd (omega (arith, ints, a))) in
    (t, high, in_hour k t (omega (arith, ints, e)) (omega (arith, ints, e)))

-- the hours between those two have times of 64 bits alone
pub whole : (k t : ℤ) → negsuc 2562047788015 <ℤ k → k <ℤ pos 2562047788015 → hour_start k ≤ℤ t → t <ℤ hour_start (k +ℤ pos 1) → FitsSigned w64 t
whole k t p q a b = fits_from t (omega (arith, ints)) (omega (arith, ints))

pub edge_is : (k : ℤ) → IsBetween k → IsEdge k → (k ≡ negsuc 2562047788015) ⊎ (k ≡ pos 2562047788015)
edge_is k b (t, outside, h) =
    by_lt_z (negsuc 2562047788015) k
    (λ above. by_lt_z k (pos 2562047788015) (λ below. absurd (outside (whole k t above below (begun k t h) (not_over k t h)))) (λ last. inr (omega (arith, ints, b.to))))
    (λ first. inl (omega (arith, ints, b.from)))

in_range : (k t : ℤ) → (IsEdge k → ⊥) → IsTrue (is_in_hour k t) → FitsSigned w64 t
in_range k t not_edge h =
    by_lt_z t (negsuc 9223372036854775807)
    (λ low. absurd (not_edge (t, (λ f. let a = above_least t f in absurd (omega (arith, ints, a, low))), h)))
    (λ from. by_lt_z (pos 9223372036854775807) t (λ high. absurd (not_edge (t, (λ f. let a = below_greatest t f in absurd (omega (arith, ints, a, high))), h))) (λ to. fits_from t from to))

-- an hour that is no edge begins and ends at times of 64 bits
pub inside : (k : ℤ) → (IsEdge k → ⊥) → FitsSigned w64 (hour_start k) × FitsSigned w64 (hour_start (k +ℤ pos 1) -ℤ pos 1)
inside k not_edge = (
  in_range k (hour_start k) not_edge (in_hour k (hour_start k) (omega (arith, ints)) (omega (arith, ints))),
  in_range k (hour_start (k +ℤ pos 1) -ℤ pos 1) not_edge (in_hour k (hour_start (k +ℤ pos 1) -ℤ pos 1) (omega (arith, ints)) (omega (arith, ints))),
)

pub has_time_just : (k : ℤ) → HasTime k ↔ (negsuc 2562047788015 ≤ℤ k) × (k ≤ℤ pos 2562047788015)
has_time_just k = (λ h. (let b = between k h in (b.from, b.to)), λ b. has_time k (record { from = b.0; to = b.1 }))

pub edges_just : (k : ℤ) → HasTime k → IsEdge k ↔ ((k ≡ negsuc 2562047788015) ⊎ (k ≡ pos 2562047788015))
edges_just k h = (edge_is k (between k h), λ e. elim e [ inl first ↦ is_first k first | inr last ↦ is_last k last ])
