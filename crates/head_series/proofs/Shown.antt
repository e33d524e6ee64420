-- What a table shows of the slots that it keeps.
use Rattle.std.proofs.Common.{◌≡◌, ℕ, Option, Some, None, Result, Ok, Err, Bool, true, false, ap, sym, ◌∙◌, refl, eqb-true}
use Rattle.std.specs.Prelude.{◌==◌, nat_eq, if◌then◌else◌}
use Rattle.std.specs.Map.{lookup}
use Rattle.std.specs.Result.{OnErr}
use Rattle.series_references.specs.ReferenceSlots.{ReferenceSlotsValue, pairs_of, slot_of}
use Rattle.head_series.specs.Table.{Table, slot_at, AreAlike, IsLeast, IsWith}
use Rattle.series_references.proofs.SlotLemmas.{shown_slot}

pub slot_shown : (t : Table) (o : ReferenceSlotsValue) → pairs_of o ≡ t.slots → (r : ℕ) → slot_at t r ≡ slot_of o r
slot_shown t o e r = ap (lookup (nat_eq r)) (sym e) ∙ shown_slot o r

pub alike_shown : (t u : Table) (o p : ReferenceSlotsValue) → pairs_of o ≡ t.slots → pairs_of p ≡ u.slots → u.series ≡ t.series → u.greatest ≡ t.greatest → u.texts ≡ t.texts → u.most ≡ t.most
    → ((r : ℕ) → slot_of p r ≡ slot_of o r) → AreAlike t u
alike_shown t u o p e f series greatest texts most same = record {
  series = series;
  slots = λ r. slot_shown u p f r ∙ same r ∙ sym (slot_shown t o e r);
  greatest = greatest;
  texts = texts;
  most = most;
}

pub with_shown : (t : Table) (o p : ReferenceSlotsValue) (q s : ℕ) → pairs_of o ≡ t.slots → IsWith (slot_of o) q s (slot_of p) → (r : ℕ) → lookup (nat_eq r) (pairs_of p) ≡ (if q == r then Some s else slot_at t r)
with_shown t o p q s e w r = shown_slot p r ∙ w r ∙ ap (λ x. if q == r then Some s else x) (sym (slot_shown t o e r))

-- a reference that has the slot already
pub kept_shown : (t : Table) (o : ReferenceSlotsValue) (q s : ℕ) → pairs_of o ≡ t.slots → slot_of o q ≡ Some s → (r : ℕ) → lookup (nat_eq r) (pairs_of o) ≡ (if q == r then Some s else slot_at t r)
kept_shown t o q s e f = with_shown t o o q s e (λ r. same r (q == r) refl) where
  same : (r : ℕ) (b : Bool) → (q == r) ≡ b → slot_of o r ≡ (if q == r then Some s else slot_of o r)
  same r true g = let k : q ≡ r = eqb-true q r g in ap (slot_of o) (sym k) ∙ f ∙ sym (ap (λ b. if b then Some s else slot_of o r) g)
  same r false g = sym (ap (λ b. if b then Some s else slot_of o r) g)

pub on_err : {X E : Type 0} (r : Result X E) (P : Type 0) → P → OnErr r P
on_err (Ok x) P h = tt
on_err (Err e) P h = h

pub least_shown : (t : Table) (o : ReferenceSlotsValue) (s : ℕ) (least : Option ℕ) → pairs_of o ≡ t.slots → IsLeast (λ r. slot_of o r ≡ Some s) least → IsLeast (λ r. slot_at t r ≡ Some s) least
least_shown t o s None e h = λ r k. h r (sym (slot_shown t o e r) ∙ k)
least_shown t o s (Some q) e h = (slot_shown t o e q ∙ h.0, λ r k. h.1 r (sym (slot_shown t o e r) ∙ k))
