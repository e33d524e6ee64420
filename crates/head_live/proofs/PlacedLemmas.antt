-- Placed samples that are equal.
use Rattle.std.proofs.Common.{◌≡◌, Bool, true, false, ap, refl}
use Rattle.std.specs.Bool.{Decides}
use Rattle.std.specs.Ordering.{int_eq}
use Rattle.std.specs.Prelude.{◌&&◌, nat_eq}
use Rattle.std.proofs.lemmas.Bool.Decides.{Decides-eqb, Decides-int_eq}
use Rattle.head_live.specs.declared.placed.PlacedSample.{PlacedSample}
use Rattle.head_live.proofs.OrderLemmas.{placed_whole}

-- equal numbers are equal samples
pub placed_eq : (a b : PlacedSample) → Decides (nat_eq a.slot b.slot && (int_eq a.time b.time && int_eq a.value b.value)) (a ≡ b)
placed_eq a b = (to, back) where
  parts : (p q : Bool) → (p && q) ≡ true → (p ≡ true) × (q ≡ true)
  parts true q h = (refl, h)
  parts false q h = absurd cc

  to : (nat_eq a.slot b.slot && (int_eq a.time b.time && int_eq a.value b.value)) ≡ true → a ≡ b
  to h =
      let first = parts (nat_eq a.slot b.slot) (int_eq a.time b.time && int_eq a.value b.value) h in
      let rest = parts (int_eq a.time b.time) (int_eq a.value b.value) first.1 in
      placed_whole a b ((Decides-eqb a.slot b.slot).0 first.0) ((Decides-int_eq a.time b.time).0 rest.0) ((Decides-int_eq a.value b.value).0 rest.1)

  both : (p q : Bool) → p ≡ true → q ≡ true → (p && q) ≡ true
  both true q h k = k
  both false q h k = absurd cc

  back : a ≡ b → (nat_eq a.slot b.slot && (int_eq a.time b.time && int_eq a.value b.value)) ≡ true
  back e =
      both (nat_eq a.slot b.slot) (int_eq a.time b.time && int_eq a.value b.value) ((Decides-eqb a.slot b.slot).1 (ap (λ s. s.slot) e))
      (both (int_eq a.time b.time) (int_eq a.value b.value) ((Decides-int_eq a.time b.time).1 (ap (λ s. s.time) e)) ((Decides-int_eq a.value b.value).1 (ap (λ s. s.value) e)))
