-- The references that are kept for each slot.
use Rattle.std.proofs.Common.{◌≡◌, ℕ, zero, suc, ◌+◌, ◌<◌, ◌≤◌, ◌⊎◌, ◌≢◌, get_or, inl, inr, Bool, true, false, List, [], ◌∷◌, ◌++◌, Option, Some, None, ap, sym, subst, ◌∙◌, refl, arith, length, length-append, set, eqb-true, eq-eqb}
use Rattle.std.specs.Prelude.{◌==◌, slice_index, if◌then◌else◌}
use Rattle.std.proofs.lemmas.List.{length-set, get_or_default, get_or-set_same, get_or-set_other}
use Rattle.series_references.specs.Has.{has}
use Rattle.series_references.specs.References.{kept_at, AreKept, IsFirst}
use Rattle.series_references.specs.Slots.{IsLeast, IsWith}
use Rattle.series_references.proofs.HasLemmas.{has_here, has_later}

-- as `AreKept`, but that nothing is said of the first of some slots
pub record AreKeptBut (loose : ℕ → Type 0) (slots : ℕ → Option ℕ) (ks : List (List ℕ)) : Type 0 where
  pub within : (r s : ℕ) → slots r ≡ Some s → s < length ks
  pub kept : (r s : ℕ) → slots r ≡ Some s → has (kept_at ks s) r ≡ true
  pub first : (s : ℕ) → s < length ks → loose s ⊎ IsFirst slots ks s

-- what letting go of those before the first makes of a list
pub record IsSettled (slots : ℕ → Option ℕ) (s : ℕ) (old new : List ℕ) : Type 0 where
  pub kept : (r : ℕ) → slots r ≡ Some s → has old r ≡ true → has new r ≡ true
  pub first : (slots (slice_index new 0) ≡ Some s) ⊎ ((r : ℕ) → slots r ≡ Some s → has new r ≡ true → ⊥)

pub settled : (loose still : ℕ → Type 0) (slots : ℕ → Option ℕ) (ks : List (List ℕ)) (s : ℕ) (new : List ℕ) → AreKeptBut loose slots ks → s < length ks → IsSettled slots s (kept_at ks s) new
    → ((t : ℕ) → loose t → (t ≡ s) ⊎ still t) → AreKeptBut still slots (set ks s new)
settled loose still slots ks s new h w i c = record {
  within = λ r t e. (let k = h.within r t e in let j = length-set ks s new in omega (arith, k, j));
  kept = λ r t e. kept r t e (s == t) refl;
  first = λ t b. first t (s == t) refl (let j = length-set ks s new in omega (arith, b, j));
} where
  here : kept_at (set ks s new) s ≡ new
  here = get_or-set_same ks s new [] w

  there : (t : ℕ) → (s == t) ≡ false → kept_at (set ks s new) t ≡ kept_at ks t
  there t f = let ne : t ≢ s = λ g. (let k : (s == t) ≡ true = eq-eqb s t (sym g) in absurd (cc)) in get_or-set_other ks s t new [] ne

  kept_here : (r : ℕ) → slots r ≡ Some s → has new r ≡ true
  kept_here r e = i.kept r e (h.kept r s e)

  kept : (r t : ℕ) → slots r ≡ Some t → (b : Bool) → (s == t) ≡ b → has (kept_at (set ks s new) t) r ≡ true
  kept r t e true f = let k : s ≡ t = eqb-true s t f in subst (λ u. has (kept_at (set ks s new) u) r ≡ true) k (ap (λ l. has l r) here ∙ kept_here r (e ∙ ap Some (sym k)))
  kept r t e false f = ap (λ l. has l r) (there t f) ∙ h.kept r t e

  first_here : (slots (slice_index new 0) ≡ Some s) ⊎ ((r : ℕ) → slots r ≡ Some s → has new r ≡ true → ⊥) → IsFirst slots (set ks s new) s
  first_here (inl a) = inl (ap (λ l. slots (slice_index l 0)) here ∙ a)
  first_here (inr a) = inr (λ r e. a r e (kept_here r e))

  first_there : (t : ℕ) → (s == t) ≡ false → loose t ⊎ IsFirst slots ks t → still t ⊎ IsFirst slots (set ks s new) t
  first_there t f (inl a) = other (c t a) where
    other : (t ≡ s) ⊎ still t → still t ⊎ IsFirst slots (set ks s new) t
    other (inl e) = let k : (s == t) ≡ true = eq-eqb s t (sym e) in absurd (cc)
    other (inr b) = inl b
  first_there t f (inr (inl a)) = inr (inl (ap (λ l. slots (slice_index l 0)) (there t f) ∙ a))
  first_there t f (inr (inr a)) = inr (inr a)

  first : (t : ℕ) (b : Bool) → (s == t) ≡ b → t < length ks → still t ⊎ IsFirst slots (set ks s new) t
  first t true f b = let k : s ≡ t = eqb-true s t f in inr (subst (IsFirst slots (set ks s new)) k (first_here i.first))
  first t false f b = first_there t f (h.first t b)

-- a slot whose first may be another's now
abbrev pub IsLoose : ℕ → Option ℕ → ℕ → Type 0
IsLoose s old t = (t ≡ s) ⊎ (old ≡ Some t)

none_but : (o p : ℕ → Option ℕ) (r s t : ℕ) → IsWith o r s p → (s ≡ t → ⊥) → ((q : ℕ) → o q ≡ Some t → ⊥) → (q : ℕ) → p q ≡ Some t → ⊥
none_but o p r s t w ne none q e = at (r == q) (sym (w q) ∙ e) where
  at : (b : Bool) → (if b then Some s else o q) ≡ Some t → ⊥
  at true k = let j : s ≡ t = cc in ne j
  at false k = none q k

still_first : (o p : ℕ → Option ℕ) (r s t f : ℕ) → IsWith o r s p → o f ≡ Some t → (o r ≡ Some t) ⊎ (p f ≡ Some t)
still_first o p r s t f w e = at (r == f) refl where
  at : (b : Bool) → (r == f) ≡ b → (o r ≡ Some t) ⊎ (p f ≡ Some t)
  at true g = let k : r ≡ f = eqb-true r f g in inl (ap o k ∙ e)
  at false g = inr (w f ∙ ap (λ b. if b then Some s else o f) g ∙ e)

-- one reference more is kept for a slot that was there
pub pointed : (o p : ℕ → Option ℕ) (ks : List (List ℕ)) (r s : ℕ) (new : List ℕ) → AreKept o ks → IsWith o r s p → s < length ks → ((q : ℕ) → has new q ≡ has (r ∷ kept_at ks s) q)
    → AreKeptBut (IsLoose s (o r)) p (set ks s new)
pointed o p ks r s new h w b a = record {
  within = λ q t e. within q t (r == q) (sym (w q) ∙ e);
  kept = λ q t e. kept q t (r == q) refl (sym (w q) ∙ e) (s == t) refl;
  first = λ t c. first t (s == t) refl (let j = length-set ks s new in omega (arith, c, j));
} where
  here : kept_at (set ks s new) s ≡ new
  here = get_or-set_same ks s new [] b

  there : (t : ℕ) → (s == t) ≡ false → kept_at (set ks s new) t ≡ kept_at ks t
  there t f = let ne : t ≢ s = λ g. (let k : (s == t) ≡ true = eq-eqb s t (sym g) in absurd (cc)) in get_or-set_other ks s t new [] ne

  within : (q t : ℕ) (c : Bool) → (if c then Some s else o q) ≡ Some t → t < length (set ks s new)
  within q t true e = let k : s ≡ t = cc in let j = length-set ks s new in omega (arith, k, b, j)
  within q t false e = let k = h.within q t e in let j = length-set ks s new in omega (arith, k, j)

  kept : (q t : ℕ) (c : Bool) → (r == q) ≡ c → (if c then Some s else o q) ≡ Some t → (d : Bool) → (s == t) ≡ d → has (kept_at (set ks s new) t) q ≡ true
  kept q t true f e d g =
      let k : s ≡ t = cc in let j : r ≡ q = eqb-true r q f in
      subst (λ u. has (kept_at (set ks s new) u) q ≡ true) k (ap (λ l. has l q) here ∙ a q ∙ ap (λ n. has (n ∷ kept_at ks s) q) j ∙ has_here (kept_at ks s) q)
  kept q t false f e true g =
      let k : s ≡ t = eqb-true s t g in
      subst (λ u. has (kept_at (set ks s new) u) q ≡ true) k (ap (λ l. has l q) here ∙ a q ∙ has_later (kept_at ks s) r q (h.kept q s (e ∙ ap Some (sym k))))
  kept q t false f e false g = ap (λ l. has l q) (there t g) ∙ h.kept q t e

  first_there : (t : ℕ) → (s == t) ≡ false → IsFirst o ks t → IsLoose s (o r) t ⊎ IsFirst p (set ks s new) t
  first_there t f (inl e) = at (still_first o p r s t (slice_index (kept_at ks t) 0) w e) where
    at : (o r ≡ Some t) ⊎ (p (slice_index (kept_at ks t) 0) ≡ Some t) → IsLoose s (o r) t ⊎ IsFirst p (set ks s new) t
    at (inl k) = inl (inr k)
    at (inr k) = inr (inl (ap (λ l. p (slice_index l 0)) (there t f) ∙ k))
  first_there t f (inr e) = inr (inr (none_but o p r s t w (λ g. (let k : (s == t) ≡ true = eq-eqb s t g in absurd (cc))) e))

  first : (t : ℕ) (c : Bool) → (s == t) ≡ c → t < length ks → IsLoose s (o r) t ⊎ IsFirst p (set ks s new) t
  first t true f c = let k : s ≡ t = eqb-true s t f in inl (inl (sym k))
  first t false f c = first_there t f (h.first t c)

-- nothing is loose
pub all_first : (loose : ℕ → Type 0) (slots : ℕ → Option ℕ) (ks : List (List ℕ)) → AreKeptBut loose slots ks → ((t : ℕ) → loose t → ⊥) → AreKept slots ks
all_first loose slots ks h n = record {
  within = h.within;
  kept = h.kept;
  first = λ s b. at s (h.first s b);
} where
  at : (s : ℕ) → loose s ⊎ IsFirst slots ks s → IsFirst slots ks s
  at s (inl e) = absurd (n s e)
  at s (inr e) = e

-- the first that is kept is the least of all, where the slot has any
pub least_kept : (slots : ℕ → Option ℕ) (ks : List (List ℕ)) (s least : ℕ) → AreKept slots ks → s < length ks → least ≡ slice_index (kept_at ks s) 0 → ((r : ℕ) → has (kept_at ks s) r ≡ true → least ≤ r)
    → slots least ≡ Some s → IsLeast (λ r. slots r ≡ Some s) (Some least)
least_kept slots ks s least h b e l f = (f, λ r k. l r (h.kept r s k))

pub none_kept : (slots : ℕ → Option ℕ) (ks : List (List ℕ)) (s least : ℕ) → AreKept slots ks → s < length ks → least ≡ slice_index (kept_at ks s) 0
    → (slots least ≡ Some s → ⊥) → IsLeast (λ r. slots r ≡ Some s) None
none_kept slots ks s least h b e f = at (h.first s b) where
  at : IsFirst slots ks s → (r : ℕ) → slots r ≡ Some s → ⊥
  at (inl k) = absurd (f (ap slots e ∙ k))
  at (inr k) = k

-- ---- one series more

kept_front : (ks : List (List ℕ)) (x : List ℕ) (s : ℕ) → s < length ks → kept_at (ks ++ x ∷ []) s ≡ kept_at ks s
kept_front [] x s h = absurd (omega arith)
kept_front (k ∷ ks) x zero h = refl
kept_front (k ∷ ks) x (suc s) h = kept_front ks x s (omega (arith, h))

kept_end : (ks : List (List ℕ)) (x : List ℕ) → kept_at (ks ++ x ∷ []) (length ks) ≡ x
kept_end [] x = refl
kept_end (k ∷ ks) x = kept_end ks x

pub pushed : (o p : ℕ → Option ℕ) (ks : List (List ℕ)) (r : ℕ) → AreKept o ks → IsWith o r (length ks) p → AreKeptBut (λ t. o r ≡ Some t) p (ks ++ (r ∷ []) ∷ [])
pushed o p ks r h w = record {
  within = λ q t e. within q t (r == q) (sym (w q) ∙ e);
  kept = λ q t e. kept q t (r == q) refl (sym (w q) ∙ e);
  first = λ t c. first t (length ks == t) refl (omega (arith, c, long));
} where
  long : length (ks ++ (r ∷ []) ∷ []) ≡ length ks + 1
  long = length-append ks ((r ∷ []) ∷ [])

  here : (t : ℕ) → length ks ≡ t → kept_at (ks ++ (r ∷ []) ∷ []) t ≡ r ∷ []
  here t e = ap (kept_at (ks ++ (r ∷ []) ∷ [])) (sym e) ∙ kept_end ks (r ∷ [])

  within : (q t : ℕ) (c : Bool) → (if c then Some (length ks) else o q) ≡ Some t → t < length (ks ++ (r ∷ []) ∷ [])
  within q t true e = let k : length ks ≡ t = cc in omega (arith, k, long)
  within q t false e = let k = h.within q t e in omega (arith, k, long)

  kept : (q t : ℕ) (c : Bool) → (r == q) ≡ c → (if c then Some (length ks) else o q) ≡ Some t → has (kept_at (ks ++ (r ∷ []) ∷ []) t) q ≡ true
  kept q t true f e =
      let k : length ks ≡ t = cc in let j : r ≡ q = eqb-true r q f in
      ap (λ l. has l q) (here t k) ∙ ap (λ n. has (n ∷ []) q) j ∙ has_here [] q
  kept q t false f e = ap (λ l. has l q) (kept_front ks (r ∷ []) t (h.within q t e)) ∙ h.kept q t e

  first_there : (t : ℕ) → t < length ks → IsFirst o ks t → (o r ≡ Some t) ⊎ IsFirst p (ks ++ (r ∷ []) ∷ []) t
  first_there t b (inl e) = at (still_first o p r (length ks) t (slice_index (kept_at ks t) 0) w e) where
    at : (o r ≡ Some t) ⊎ (p (slice_index (kept_at ks t) 0) ≡ Some t) → (o r ≡ Some t) ⊎ IsFirst p (ks ++ (r ∷ []) ∷ []) t
    at (inl k) = inl k
    at (inr k) = inr (inl (ap (λ l. p (slice_index l 0)) (kept_front ks (r ∷ []) t b) ∙ k))
  first_there t b (inr e) = inr (inr (none_but o p r (length ks) t w (λ g. (omega (arith, b, g))) e))

  itself : p r ≡ Some (length ks)
  itself = w r ∙ ap (λ b. if b then Some (length ks) else o r) (eq-eqb r r refl)

  first : (t : ℕ) (c : Bool) → (length ks == t) ≡ c → t < length ks + 1 → (o r ≡ Some t) ⊎ IsFirst p (ks ++ (r ∷ []) ∷ []) t
  first t true f b = let k : length ks ≡ t = eqb-true (length ks) t f in inr (inl (ap (λ l. p (slice_index l 0)) (here t k) ∙ itself ∙ ap Some k))
  first t false f b =
      let ne : t ≢ length ks = λ g. (let k : (length ks == t) ≡ true = eq-eqb (length ks) t (sym g) in absurd (cc)) in
      first_there t (omega (arith, b, ne)) (h.first t (omega (arith, b, ne)))

-- ---- what the calls do, one after another

settled_now : (loose still : ℕ → Type 0) (slots : ℕ → Option ℕ) (ks : List (List ℕ)) (s : ℕ) (before new : List ℕ) → AreKeptBut loose slots ks → s < length ks → before ≡ get_or ks s before
    → ((r : ℕ) → slots r ≡ Some s → has before r ≡ true → has new r ≡ true) → (slots (slice_index new 0) ≡ Some s) ⊎ ((r : ℕ) → slots r ≡ Some s → has new r ≡ true → ⊥)
    → ((t : ℕ) → loose t → (t ≡ s) ⊎ still t) → AreKeptBut still slots (set ks s new)
settled_now loose still slots ks s before new h w e k f c = settled loose still slots ks s new h w (record {
  kept = λ r a b. k r a (ap (λ ns. has ns r) at ∙ b);
  first = f;
}) c where
  at : before ≡ kept_at ks s
  at = e ∙ get_or_default ks s before [] w

-- the series that had the reference before is settled, if there is one
pub last_settled : (o p : ℕ → Option ℕ) (ks : List (List ℕ)) (r old : ℕ) (before new : List ℕ) → AreKeptBut (λ t. o r ≡ Some t) p ks → o r ≡ Some old → old < length ks → before ≡ get_or ks old before
    → ((q : ℕ) → p q ≡ Some old → has before q ≡ true → has new q ≡ true) → (p (slice_index new 0) ≡ Some old) ⊎ ((q : ℕ) → p q ≡ Some old → has new q ≡ true → ⊥) → AreKept p (set ks old new)
last_settled o p ks r old before new h a w e k f =
    all_first (λ t. ⊥) p (set ks old new) (settled_now (λ t. o r ≡ Some t) (λ t. ⊥) p ks old before new h w e k f (λ t g. (let j : Some t ≡ Some old = sym g ∙ a in let i : t ≡ old = cc in inl i))) (λ t g. g)

pub none_loose : (o p : ℕ → Option ℕ) (ks : List (List ℕ)) (r : ℕ) → AreKeptBut (λ t. o r ≡ Some t) p ks → o r ≡ None → AreKept p ks
none_loose o p ks r h a = all_first (λ t. o r ≡ Some t) p ks h (λ t g. (let j : None ≡ Some t = sym a ∙ g in cc))

-- a reference is put in among those of a series, and these are settled
pub point_settled : (o p : ℕ → Option ℕ) (ks : List (List ℕ)) (r s : ℕ) (before added between new : List ℕ) → AreKept o ks → IsWith o r s p → s < length ks
    → before ≡ get_or ks s before → ((q : ℕ) → has added q ≡ has (r ∷ before) q) → between ≡ get_or (set ks s added) s between
    → ((q : ℕ) → p q ≡ Some s → has between q ≡ true → has new q ≡ true) → (p (slice_index new 0) ≡ Some s) ⊎ ((q : ℕ) → p q ≡ Some s → has new q ≡ true → ⊥)
    → AreKeptBut (λ t. o r ≡ Some t) p (set (set ks s added) s new)
point_settled o p ks r s before added between new h w b e a g k f =
    settled_now (IsLoose s (o r)) (λ t. o r ≡ Some t) p (set ks s added) s between new (pointed o p ks r s added h w b (λ q. a q ∙ ap (λ ns. has (r ∷ ns) q) at)) (let j = length-set ks s added in omega (arith, b, j)) g k f (λ t i. i) where
      at : before ≡ kept_at ks s
      at = e ∙ get_or_default ks s before [] b
