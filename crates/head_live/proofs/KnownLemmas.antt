-- The label sets that are noted for slots, after a change.
use Rattle.std.proofs.Common.{slice_get, slice_set, subst, sym, ◌≡◌, ℕ, zero, suc, ◌⊎◌, inl, inr, List, [], ◌∷◌, ◌++◌, Option, None, Some, replicate, refl, ap, ◌∙◌, append_assoc}
use Rattle.std.specs.declared.sync.Arc.{Arc}
use Rattle.wal_record.specs.Labels.{Labels}
use Rattle.head_core.specs.Growing.{HaveGrown}
use Rattle.head_live.specs.declared.known.KnownSets.{KnownSets}
use Rattle.head_live.specs.Known.{Knows, set_at}

abbrev nones : (A : Type 0) → ℕ → List (Option (Arc Labels A))
nones A count = replicate count None

none_at : (A : Type 0) (count slot : ℕ) (l : Labels) → set_at (nones A count) slot ≡ Some l → ⊥
none_at A zero slot l h = cc
none_at A (suc n) zero l h = cc
none_at A (suc n) (suc slot) l h = none_at A n slot l h

module _ {A : Type 0} where
  -- no set is noted in a new place
  pub longer_at : (sets : List (Option (Arc Labels A))) (count slot : ℕ) (l : Labels) → set_at (sets ++ replicate count None) slot ≡ Some l → set_at sets slot ≡ Some l
  longer_at [] count slot l h = absurd (none_at A count slot l h)
  longer_at (s ∷ sets) count zero l h = h
  longer_at (s ∷ sets) count (suc slot) l h = longer_at sets count slot l h

  -- what is noted is the new set in its place, or what was noted before
  pub noted_at : (sets : List (Option (Arc Labels A))) (place : ℕ) (a : Arc Labels A) (slot : ℕ) (l : Labels) → set_at (slice_set sets place (Some a)) slot ≡ Some l
      → ((slot ≡ place) × (Some a.value ≡ Some l)) ⊎ (set_at sets slot ≡ Some l)
  noted_at [] place a slot l h = inr h
  noted_at (s ∷ sets) zero a zero l h = inl (refl, h)
  noted_at (s ∷ sets) zero a (suc slot) l h = inr h
  noted_at (s ∷ sets) (suc place) a zero l h = inr h
  noted_at (s ∷ sets) (suc place) a (suc slot) l h = further (noted_at sets place a slot l h)
    where
      further : ((slot ≡ place) × (Some a.value ≡ Some l)) ⊎ (set_at sets slot ≡ Some l) → ((suc slot ≡ suc place) × (Some a.value ≡ Some l)) ⊎ (set_at sets slot ≡ Some l)
      further (inl e) = inl (ap suc e.0, e.1)
      further (inr m) = inr m

-- one new place more
pub none_more : {A : Type 0} (count : ℕ) → replicate {A = Option A} count None ++ None ∷ [] ≡ replicate (suc count) None
none_more zero = refl
none_more (suc n) = ap (λ ns. None ∷ ns) (none_more n)

pub longer_more : {A : Type 0} (old now : List (Option A)) (count : ℕ) → now ≡ old ++ replicate count None → now ++ None ∷ [] ≡ old ++ replicate (suc count) None
longer_more old now count e = ap (λ ns. ns ++ None ∷ []) e ∙ append_assoc old (replicate count None) (None ∷ []) ∙ ap (λ ns. old ++ ns) (none_more count)

-- ---- series that were added

front_at : {X : Type 0} (xs ys : List X) (i : ℕ) (x : X) → slice_get xs i ≡ Some x → slice_get (xs ++ ys) i ≡ Some x
front_at [] ys i x h = cc
front_at (z ∷ xs) ys zero x h = h
front_at (z ∷ xs) ys (suc i) x h = front_at xs ys i x h

pub knows_grown : (k : KnownSets) (earlier later : List Labels) → HaveGrown earlier later → Knows k earlier → Knows k later
knows_grown k earlier later grown knows = λ slot l h. subst (λ ss. slice_get ss slot ≡ Some l) (sym grown.1) (front_at earlier grown.0 slot l (knows slot l h))

pub knows_same : (k : KnownSets) (earlier later : List Labels) → later ≡ earlier → Knows k earlier → Knows k later
knows_same k earlier later same knows = subst (Knows k) (sym same) knows
