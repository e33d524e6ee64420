-- What a table shows of the slots of references.
use Rattle.std.proofs.Common.{◌≡◌, ℕ, zero, suc, ◌+◌, ◌<◌, ◌≤◌, ◌⊎◌, Bool, true, false, List, [], ◌∷◌, ◌++◌, Some, None, Option, ap, sym, ◌∙◌, refl, arith, inl, inr, take, cond, eqb-true, eq-eqb, zero-add}
use Rattle.std.proofs.lemmas.Bool.{cases_lt}
use Rattle.std.proofs.lemmas.List.{get_or-take, get_or_past, length-take}
use Rattle.std.proofs.lemmas.Map.Entries.{lookup-filter-keys}
use Rattle.hw_bytes.specs.Lists.{or_else}
use Rattle.std.specs.Prelude.{filter, nat_eq, nat_le, nat_lt, slice_index, if◌then◌else◌}
use Rattle.std.specs.Map.{lookup}
use Rattle.series_references.specs.ReferenceSlots.{ReferenceSlotsValue, low_end, low_pairs, pairs_of, slot_of, before_one}

slot_high : (o : ReferenceSlotsValue) (r : ℕ) → 4194304 ≤ r → slot_of o r ≡ lookup (nat_eq r) o.high
slot_high o r h = let k : nat_lt r 4194304 ≡ false = grind arith in ap (λ b. if b then before_one (slice_index o.low r) else lookup (nat_eq r) o.high) k

lookup-append : (r : ℕ) (es fs : List (ℕ × ℕ)) → lookup (nat_eq r) (es ++ fs) ≡ or_else (lookup (nat_eq r) es) (lookup (nat_eq r) fs)
lookup-append r [] fs = refl
lookup-append r (e ∷ es) fs = at (nat_eq r e.0) (lookup-append r es fs) where
  at : (b : Bool) → lookup (nat_eq r) (es ++ fs) ≡ or_else (lookup (nat_eq r) es) (lookup (nat_eq r) fs)
      → cond b (Some e.1) (lookup (nat_eq r) (es ++ fs)) ≡ or_else (cond b (Some e.1) (lookup (nat_eq r) es)) (lookup (nat_eq r) fs)
  at true k = refl
  at false k = k

or_none : (o : Option ℕ) → or_else o None ≡ o
or_none None = refl
or_none (Some s) = refl

other : (r n : ℕ) → r < n ⊎ n < r → nat_eq r n ≡ false
other r n (inl h) = grind arith
other r n (inr h) = grind arith

low_none : (n : ℕ) (xs : List ℕ) (r : ℕ) → r < n → lookup (nat_eq r) (low_pairs n xs) ≡ None
low_none n [] r h = refl
low_none n (zero ∷ xs) r h = low_none (suc n) xs r (omega (arith, h))
low_none n (suc s ∷ xs) r h = ap (λ b. cond b (Some s) (lookup (nat_eq r) (low_pairs (suc n) xs))) (other r n (inl h)) ∙ low_none (suc n) xs r (omega (arith, h))

low_at : (n : ℕ) (xs : List ℕ) (i : ℕ) → lookup (nat_eq (n + i)) (low_pairs n xs) ≡ before_one (slice_index xs i)
low_at n [] i = refl
low_at n (zero ∷ xs) zero = low_none (suc n) xs (n + 0) (omega arith)
low_at n (zero ∷ xs) (suc i) = let e : n + suc i ≡ suc n + i = omega arith in ap (λ m. lookup (nat_eq m) (low_pairs (suc n) xs)) e ∙ low_at (suc n) xs i
low_at n (suc s ∷ xs) zero = let e : nat_eq (n + 0) n ≡ true = eq-eqb (n + 0) n (omega arith) in ap (λ b. cond b (Some s) (lookup (nat_eq (n + 0)) (low_pairs (suc n) xs))) e
low_at n (suc s ∷ xs) (suc i) =
    let e : n + suc i ≡ suc n + i = omega arith in
    ap (λ b. cond b (Some s) (lookup (nat_eq (n + suc i)) (low_pairs (suc n) xs))) (other (n + suc i) n (inr (omega arith)))
    ∙ ap (λ m. lookup (nat_eq m) (low_pairs (suc n) xs)) e
    ∙ low_at (suc n) xs i

high_at : (b : Bool) (r : ℕ) (es : List (ℕ × ℕ)) → nat_le low_end r ≡ b → lookup (nat_eq r) (filter (λ e. nat_le low_end e.0) es) ≡ cond b (lookup (nat_eq r) es) None
high_at b r es h = lookup-filter-keys (nat_eq r) (λ k. nat_le low_end k) b (λ k e. ap (nat_le low_end) (sym (eqb-true r k e)) ∙ h) es

-- the pairs give each reference the slot that it has
pub shown_slot : (o : ReferenceSlotsValue) (r : ℕ) → lookup (nat_eq r) (pairs_of o) ≡ slot_of o r
shown_slot o r =
    lookup-append r (low_pairs 0 (take low_end o.low)) (filter (λ e. nat_le low_end e.0) o.high)
    ∙ ap (λ x. or_else x (lookup (nat_eq r) (filter (λ e. nat_le low_end e.0) o.high))) (ap (λ m. lookup (nat_eq m) (low_pairs 0 (take low_end o.low))) (sym (zero-add r)) ∙ low_at 0 (take low_end o.low) r)
    ∙ by (cases_lt r low_end) where
      by : (r < low_end) ⊎ (low_end ≤ r) → or_else (before_one (slice_index (take low_end o.low) r)) (lookup (nat_eq r) (filter (λ e. nat_le low_end e.0) o.high)) ≡ slot_of o r
      by (inl h) =
          let low : nat_lt r low_end ≡ true = grind arith in
          let not_high : nat_le low_end r ≡ false = grind arith in
          ap (or_else (before_one (slice_index (take low_end o.low) r))) (high_at false r o.high not_high)
          ∙ or_none (before_one (slice_index (take low_end o.low) r))
          ∙ ap before_one (get_or-take low_end o.low r 0 h)
          ∙ sym (ap (λ b. if b then before_one (slice_index o.low r) else lookup (nat_eq r) o.high) low)
      by (inr h) =
          let high : nat_le low_end r ≡ true = grind arith in
          ap (λ n. or_else (before_one n) (lookup (nat_eq r) (filter (λ e. nat_le low_end e.0) o.high))) (get_or_past (take low_end o.low) r 0 (omega (arith, length-take low_end o.low, h)))
          ∙ high_at true r o.high high
          ∙ sym (slot_high o r h)
