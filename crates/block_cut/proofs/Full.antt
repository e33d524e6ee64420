-- The hours that are full.
use Rattle.std.proofs.Common.{◌≡◌, zero, suc, Bool, true, false, Option, None, Some, List, [], ◌∷◌, cond, refl, sym, ap, subst, ◌∙◌, arith}
use Rattle.std.specs.Prelude.{ℤ, ◌<ℤ◌, ◌↔◌, Contains, IsTrue, filter}
use Rattle.std.specs.List.{AllByRecursion}
use Rattle.std.specs.List.Sorted.{IsStrictlySortedBy}
use Rattle.std.specs.Ordering.{int_cmp}
use Rattle.std.specs.declared.cmp.Ordering.{Ordering}
use Rattle.std.specs.declared.cmp.Ordering.TheVariants.{Less, Equal, Greater}
use Rattle.std.proofs.lemmas.Cmp.{int_ranked}
use Rattle.std.proofs.lemmas.Int.{ints}
use Rattle.std.proofs.lemmas.List.Elements.{All-contains, All-contains_itself, All-filter, Contains-append_right, filter_passes}
use Rattle.std.proofs.lemmas.List.Kept.{IsStrictlySortedBy-filter}
use Rattle.head_column.specs.Hours.{is_in_hour}
use Rattle.head_column.proofs.HourLaws.{begun, lt_from, lt_true, not_over}
use Rattle.head_core.specs.Content.{Content}
use Rattle.block_read.specs.Blocks.{hour_last}
use Rattle.block_cut.specs.Cutting.{is_full_in, is_past}
use Rattle.block_cut.specs.Ranges.{Ascends, IsFull, IsRange, IsSampled}
use Rattle.block_cut.proofs.Found.{ascends}

-- ---- the test

past_is : (m : Option ℤ) (k : ℤ) → IsTrue (is_past m k) ↔ ((t : ℤ) × (m ≡ Some t) × (hour_last k <ℤ t))
past_is None k = (λ h. absurd cc, λ h. let e = h.1 in absurd cc)
past_is (Some t) k = (λ h. (t, refl, lt_from (hour_last k) t h), λ h. let e : t ≡ h.0 = cc (h.1) in lt_true (hour_last k) t (subst (λ (u : ℤ). hour_last k <ℤ u) (sym e) h.2))

pub full_is : (c : Content) (k : ℤ) → IsTrue (is_full_in c k) ↔ IsFull k c
full_is c k = past_is c.max_time k

-- a time is past an hour if and only if its own hour is a later one
pub later : (k l t : ℤ) → IsTrue (is_in_hour l t) → (k <ℤ l) ↔ (hour_last k <ℤ t)
later k l t h =
    let from = begun l t h in
    let to = not_over l t h in
    (λ lt. omega (arith, ints, from, to, lt), λ past. omega (arith, ints, from, to, past))

-- ---- what is kept

sorted_less : (k l : ℤ) → k <ℤ l → int_cmp k l ≡ Less
sorted_less k l lt = by (int_cmp k l) refl where
  by : (r : Ordering) → r ≡ int_cmp k l → int_cmp k l ≡ Less
  by Less e = sym e
  by Equal e = (let same : k ≡ l = int_ranked k l Equal e in absurd (omega (arith, ints, lt, same)))
  by Greater e = (let more : l <ℤ k = int_ranked k l Greater e in absurd (omega (arith, ints, lt, more)))

above : (k l : ℤ) (more : List ℤ) → k <ℤ l → Ascends (l ∷ more) → AllByRecursion (λ (m : ℤ). int_cmp k m ≡ Less) (l ∷ more)
above k l [] lt h = (sorted_less k l lt, tt)
above k l (m ∷ more) lt h = (let next = h.0 in (sorted_less k l lt, above k m more (omega (arith, ints, lt, next)) h.1))

sorted : (ks : List ℤ) → Ascends ks → IsStrictlySortedBy int_cmp ks
unfolding IsStrictlySortedBy
sorted [] h = tt
sorted (k ∷ []) h = (tt, tt)
sorted (k ∷ l ∷ more) h = (above k l more h.0 h.1, sorted (l ∷ more) h.1)

pub kept_ascends : (p : ℤ → Bool) (ks ls : List ℤ) → Ascends ks → ls ≡ filter p ks → Ascends ls
kept_ascends p ks ls h e = ascends ls (subst (IsStrictlySortedBy int_cmp) (sym e) (IsStrictlySortedBy-filter int_cmp p ks (sorted ks h)))

keep : (p : ℤ → Bool) (ks : List ℤ) (k : ℤ) → Contains ks k → p k ≡ true → Contains (filter p ks) k
keep p [] k h t = absurd (omega (arith, h.1))
keep p (x ∷ xs) k (zero, lt, e) t = (let passes : p x ≡ true = ap p e ∙ t in subst (λ (b : Bool). Contains (cond b (x ∷ filter p xs) (filter p xs)) k) (sym passes) (0, omega arith, e))
keep p (x ∷ xs) k (suc n, lt, e) t = by (p x) (keep p xs k (n, omega (arith, lt), e) t) where
  by : (b : Bool) → Contains (filter p xs) k → Contains (cond b (x ∷ filter p xs) (filter p xs)) k
  by true h = Contains-append_right (x ∷ []) (filter p xs) k h
  by false h = h

pub kept_exact : (c : Content) (ks ls : List ℤ) → ((k : ℤ) → Contains ks k ↔ IsSampled k c) → ls ≡ filter (is_full_in c) ks → (k : ℤ) → Contains ls k ↔ IsRange k c
kept_exact c ks ls found e k = (to, back) where
  to : Contains ls k → IsRange k c
  to h =
      let kept = subst (λ (ms : List ℤ). Contains ms k) e h in
      let passes = All-contains (λ (l : ℤ). is_full_in c l ≡ true) (filter (is_full_in c) ks) k (filter_passes (is_full_in c) ks) kept in
      let there = (found k).0 (All-contains (Contains ks) (filter (is_full_in c) ks) k (All-filter (is_full_in c) (Contains ks) ks (All-contains_itself ks)) kept) in
      record { full = (full_is c k).0 passes; some = there.some; whole = there.whole }

  back : IsRange k c → Contains ls k
  back r = subst (λ (ms : List ℤ). Contains ms k) (sym e) (keep (is_full_in c) ks k ((found k).1 (record { some = r.some; whole = r.whole })) ((full_is c k).1 r.full))

-- the test of a time in the hour l
pub full_test : (c : Content) (k l t : ℤ) (b : Bool) → c.max_time ≡ Some t → IsTrue (is_in_hour l t) → (IsTrue b → k <ℤ l) → (k <ℤ l → IsTrue b) → b ≡ is_full_in c k
full_test c k l t b e h to back = by b (is_full_in c k) (λ yes. (full_is c k).1 (t, e, (later k l t h).0 (to yes))) (λ yes. back ((later k l t h).1 (past ((full_is c k).0 yes)))) where
  past : IsFull k c → hour_last k <ℤ t
  past (u, f, lt) = (let same : u ≡ t = cc (e, f) in subst (λ (v : ℤ). hour_last k <ℤ v) same lt)

  by : (x y : Bool) → (IsTrue x → IsTrue y) → (IsTrue y → IsTrue x) → x ≡ y
  by true true p q = refl
  by true false p q = sym (p refl)
  by false true p q = q refl
  by false false p q = refl

pub full_none : (c : Content) (k : ℤ) → c.max_time ≡ None → false ≡ is_full_in c k
full_none c k e = sym (ap (λ (m : Option ℤ). is_past m k) e)

pub full_both : (c : Content) (k : ℤ) (b : Bool) → b ≡ is_full_in c k → IsTrue b ↔ IsFull k c
full_both c k b e = ((λ h. (full_is c k).0 (sym e ∙ h)), (λ f. e ∙ (full_is c k).1 f))
