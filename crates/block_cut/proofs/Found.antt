-- The hours with samples, as they are found.
use Rattle.std.proofs.Common.{◌≡◌, ℕ, ◌+◌, ◌<◌, ◌⊎◌, inl, inr, true, List, [], ◌∷◌, ◌++◌, length, get_or, take, refl, sym, subst, ◌∙◌, arith}
use Rattle.std.specs.Prelude.{ℤ, ◌↔◌, Contains, IsTrue}
use Rattle.std.specs.List.Sorted.{IsPermutation, IsSorted, IsStrictlySortedBy}
use Rattle.std.specs.List.{dedup}
use Rattle.std.specs.Ordering.{int_cmp, int_eq}
use Rattle.std.specs.declared.cmp.Ordering.TheVariants.{Less}
use Rattle.std.proofs.lemmas.Cmp.{int_cmp_total, int_eq_equiv, int_ranked}
use Rattle.std.proofs.lemmas.Bool.{cases_lt}
use Rattle.std.proofs.lemmas.Int.{ints}
use Rattle.std.proofs.lemmas.List.{get_or_default, take_more}
use Rattle.std.proofs.lemmas.List.Elements.{Contains-append_left, Contains-get_or, Contains-push, Contains-push_cases}
use Rattle.std.proofs.lemmas.List.Kept.{Contains-dedup, Contains-from_dedup, IsStrictlySortedBy-dedup}
use Rattle.std.proofs.lemmas.List.Sorted.{Contains-permutation, IsPermutation-sym}
use Rattle.std.proofs.lemmas.Option.{unwrap_or-slice_get}
use Rattle.head_column.specs.Samples.{Sample}
use Rattle.head_column.specs.Histories.{History, no_history}
use Rattle.head_column.specs.Hours.{IsEdge, is_in_hour}
use Rattle.head_column.proofs.HourLaws.{one_hour}
use Rattle.head_core.specs.Content.{Content}
use Rattle.head_core.specs.Heads.{history_at}
use Rattle.block_cut.specs.Cutting.{IsSampledBelow, IsSampledIn}
use Rattle.block_cut.specs.Ranges.{Ascends, IsSampled}

-- ---- one hour more

pub with_hour : (old new : List ℤ) (hour : ℤ) → new ≡ old ++ hour ∷ [] → (k : ℤ) → Contains new k ↔ (Contains old k ⊎ (k ≡ hour))
with_hour old new hour e k = (to, back) where
  cases : Contains old k ⊎ (hour ≡ k) → Contains old k ⊎ (k ≡ hour)
  cases (inl h) = inl h
  cases (inr h) = inr (sym h)

  to : Contains new k → Contains old k ⊎ (k ≡ hour)
  to h = cases (Contains-push_cases old hour k (subst (λ (ks : List ℤ). Contains ks k) e h))

  back : Contains old k ⊎ (k ≡ hour) → Contains new k
  back (inl h) = subst (λ (ks : List ℤ). Contains ks k) (sym e) (Contains-append_left old (hour ∷ []) k h)
  back (inr h) = subst (λ (ks : List ℤ). Contains ks k) (sym e) (subst (Contains (old ++ hour ∷ [])) (sym h) (Contains-push old hour))

-- ---- one sample more

more_samples : (k : ℤ) (xs : List Sample) (x : Sample) → IsSampledIn k xs → IsSampledIn k (xs ++ x ∷ [])
more_samples k xs x h = record { whole = h.whole; sample = h.sample; is_sample = Contains-append_left xs (x ∷ []) h.sample h.is_sample; within = h.within }

fewer_samples : (k : ℤ) (xs : List Sample) (x : Sample) → IsSampledIn k (xs ++ x ∷ []) → IsSampledIn k xs ⊎ IsTrue (is_in_hour k x.time)
fewer_samples k xs x h = by (Contains-push_cases xs x h.sample h.is_sample) where
  by : Contains xs h.sample ⊎ (x ≡ h.sample) → IsSampledIn k xs ⊎ IsTrue (is_in_hour k x.time)
  by (inl m) = inl (record { whole = h.whole; sample = h.sample; is_sample = m; within = h.within })
  by (inr e) = inr (subst (λ (s : Sample). IsTrue (is_in_hour k s.time)) (sym e) h.within)

abbrev pub AreFound : List ℤ → List ℤ → List Sample → Type 0
AreFound old new samples = (k : ℤ) → Contains new k ↔ (Contains old k ⊎ IsSampledIn k samples)

pub found_one : (old now new : List ℤ) (xs : List Sample) (i : ℕ) (d : Sample) (hour : ℤ) → i < length xs → IsTrue (is_in_hour hour (get_or xs i d).time) → (IsEdge hour → ⊥)
    → AreFound old now (take i xs) → ((k : ℤ) → Contains new k ↔ (Contains now k ⊎ (k ≡ hour))) → AreFound old new (take (i + 1) xs)
found_one old now new xs i d hour lt in' whole found more k =
    subst (λ (ys : List Sample). Contains new k ↔ (Contains old k ⊎ IsSampledIn k ys)) (sym (take_more xs i d lt)) (λ h. to ((more k).0 h), back) where
      before : Contains old k ⊎ IsSampledIn k (take i xs) → Contains old k ⊎ IsSampledIn k (take i xs ++ get_or xs i d ∷ [])
      before (inl h) = inl h
      before (inr h) = inr (more_samples k (take i xs) (get_or xs i d) h)

      to : Contains now k ⊎ (k ≡ hour) → Contains old k ⊎ IsSampledIn k (take i xs ++ get_or xs i d ∷ [])
      to (inl h) = before ((found k).0 h)
      to (inr e) = inr (subst (λ (l : ℤ). IsSampledIn l (take i xs ++ get_or xs i d ∷ [])) (sym e)
          (record { whole = whole; sample = get_or xs i d; is_sample = Contains-push (take i xs) (get_or xs i d); within = in' }))

      last : IsSampledIn k (take i xs) ⊎ IsTrue (is_in_hour k (get_or xs i d).time) → Contains new k
      last (inl h) = (more k).1 (inl ((found k).1 (inr h)))
      last (inr h) = (more k).1 (inr (one_hour k hour (get_or xs i d).time h in'))

      back : Contains old k ⊎ IsSampledIn k (take i xs ++ get_or xs i d ∷ []) → Contains new k
      back (inl h) = (more k).1 (inl ((found k).1 (inl h)))
      back (inr h) = last (fewer_samples k (take i xs) (get_or xs i d) h)

pub found_none : (old now : List ℤ) (xs : List Sample) (i : ℕ) (d : Sample) (hour : ℤ) → i < length xs → IsTrue (is_in_hour hour (get_or xs i d).time) → IsEdge hour
    → AreFound old now (take i xs) → AreFound old now (take (i + 1) xs)
found_none old now xs i d hour lt in' edge found k =
    subst (λ (ys : List Sample). Contains now k ↔ (Contains old k ⊎ IsSampledIn k ys)) (sym (take_more xs i d lt)) (λ h. before ((found k).0 h), back) where
      before : Contains old k ⊎ IsSampledIn k (take i xs) → Contains old k ⊎ IsSampledIn k (take i xs ++ get_or xs i d ∷ [])
      before (inl h) = inl h
      before (inr h) = inr (more_samples k (take i xs) (get_or xs i d) h)

      last : IsSampledIn k (take i xs ++ get_or xs i d ∷ []) → IsSampledIn k (take i xs) ⊎ IsTrue (is_in_hour k (get_or xs i d).time) → Contains now k
      last h (inl m) = (found k).1 (inr m)
      last h (inr m) = absurd (h.whole (subst IsEdge (sym (one_hour k hour (get_or xs i d).time m in')) edge))

      back : Contains old k ⊎ IsSampledIn k (take i xs ++ get_or xs i d ∷ []) → Contains now k
      back (inl h) = (found k).1 (inl h)
      back (inr h) = last h (fewer_samples k (take i xs) (get_or xs i d) h)

-- ---- one series more

abbrev pub AreFoundBelow : ℕ → List ℤ → Content → Type 0
AreFoundBelow n hours c = (k : ℤ) → Contains hours k ↔ IsSampledBelow n k c

pub found_no_series : (hours : List ℤ) (c : Content) → hours ≡ [] → AreFoundBelow 0 hours c
found_no_series [] c e k = (λ h. absurd (omega (arith, h.1)), λ r. absurd (omega (arith, r.below)))
found_no_series (h ∷ hs) c e k = absurd cc

pub found_series : (n : ℕ) (hours new : List ℤ) (samples : List Sample) (c : Content) → samples ≡ (history_at c n).samples → AreFoundBelow n hours c → AreFound hours new samples → AreFoundBelow (n + 1) new c
found_series n hours new samples c e below more k = (λ h. to ((more k).0 h), back) where
  to : Contains hours k ⊎ IsSampledIn k samples → IsSampledBelow (n + 1) k c
  to (inl h) = (let r = (below k).0 h in record { slot = r.slot; below = omega (arith, r.below); some = r.some })
  to (inr r) = record { slot = n; below = omega arith; some = subst (IsSampledIn k) e r }

  back : IsSampledBelow (n + 1) k c → Contains new k
  back r = elim (cases_lt r.slot n) [
    | inl lt ↦ (more k).1 (inl ((below k).1 (record { slot = r.slot; below = lt; some = r.some })))
    | inr ge ↦ (let is : r.slot ≡ n = omega (arith, r.below, ge) in (more k).1 (inr (subst (IsSampledIn k) (sym e) (subst (λ (slot : ℕ). IsSampledIn k (history_at c slot).samples) is r.some))))
  ]

pub found_all : (hours : List ℤ) (c : Content) → length c.histories ≡ length c.table.series → AreFoundBelow (length c.table.series) hours c → (k : ℤ) → Contains hours k ↔ IsSampled k c
found_all hours c each found k = (λ h. to ((found k).0 h), λ r. (found k).1 (back r)) where
  to : IsSampledBelow (length c.table.series) k c → IsSampled k c
  to r = record {
    some = record {
      history = history_at c r.slot;
      sample = r.some.sample;
      is_history = subst (Contains c.histories) (sym (unwrap_or-slice_get c.histories r.slot no_history)) (Contains-get_or c.histories r.slot no_history (omega (arith, r.below, each)));
      is_sample = r.some.is_sample;
      within = r.some.within;
    };
    whole = r.some.whole;
  }

  back : IsSampled k c → IsSampledBelow (length c.table.series) k c
  back r =
      let there = r.some.is_history in
      let is : history_at c there.0 ≡ r.some.history = unwrap_or-slice_get c.histories there.0 no_history ∙ get_or_default c.histories there.0 no_history r.some.history there.1 ∙ there.2 in
      record {
        slot = there.0;
        below = omega (arith, there.1, each);
        some = record { whole = r.whole; sample = r.some.sample; is_sample = subst (λ (h : History). Contains h.samples r.some.sample) (sym is) r.some.is_sample; within = r.some.within };
      }

-- ---- sorted, and each once

pub ascends : (ks : List ℤ) → IsStrictlySortedBy int_cmp ks → Ascends ks
unfolding IsStrictlySortedBy
ascends [] h = tt
ascends (k ∷ []) h = tt
ascends (k ∷ l ∷ more) h = (int_ranked k l Less (sym h.0.0), ascends (l ∷ more) h.1)

same_exact : (x y : ℤ) → int_eq x y ≡ true → x ≡ y
same_exact x y e = grind (arith, ints)

pub once_ascends : (ys zs : List ℤ) → IsSorted int_cmp ys → zs ≡ dedup int_eq ys → Ascends zs
once_ascends ys zs sorted e = ascends zs (subst (IsStrictlySortedBy int_cmp) (sym e) (IsStrictlySortedBy-dedup int_cmp_total (λ x y. refl) ys sorted))

pub once_same : (xs ys zs : List ℤ) → IsPermutation xs ys → zs ≡ dedup int_eq ys → (k : ℤ) → Contains zs k ↔ Contains xs k
once_same xs ys zs moved e k = (
  λ h. Contains-permutation ys xs k (IsPermutation-sym xs ys moved) (Contains-from_dedup int_eq ys k (subst (λ (ks : List ℤ). Contains ks k) e h)),
  λ h. subst (λ (ks : List ℤ). Contains ks k) (sym e) (Contains-dedup int_eq_equiv same_exact ys k (Contains-permutation xs ys k moved h)),
)
