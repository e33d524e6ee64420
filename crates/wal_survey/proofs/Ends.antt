-- The least and the greatest of times, with one more time.
use Rattle.std.proofs.Common.{arith, ◌≡◌, ℕ, ◌+◌, ◌<◌, Bool, true, false, cond, ℤ, length, map, take, Option, append_assoc, List, [], ◌∷◌, ◌++◌, Some, None, refl, sym, ap, subst, ◌∙◌}
use Rattle.std.specs.Prelude.{◌≤ℤ◌, All, Contains, int_lt, slice_index_or}
use Rattle.std.specs.Int.{int_max, int_min}
use Rattle.std.specs.Int.Signed.{≤ℤ_refl}
use Rattle.std.proofs.lemmas.Int.{fold-int_max_bounds, fold-int_min_bounds, ints}
use Rattle.std.proofs.lemmas.List.{map-append, take_more}
use Rattle.std.proofs.lemmas.List.Elements.{All-head, All-nil, All-push, All-weaker, Contains-append_left, Contains-push}
use Rattle.wal_record.specs.declared.record.SampleEntry.{SampleEntry}
use Rattle.wal_survey.specs.Surveys.{AreEnds}

-- an order
le_trans : (a b c : ℤ) → a ≤ℤ b → b ≤ℤ c → a ≤ℤ c
le_trans a b c h k = omega (arith, ints, h, k)

-- the first time
pub first_time : (times : List ℤ) (t : ℤ) → AreEnds times None → AreEnds (times ++ t ∷ []) (Some (t, t))
first_time times t none = (
  Contains-push times t,
  Contains-push times t,
  subst (λ (ts : List ℤ). All (λ x. (t ≤ℤ x) × (x ≤ℤ t)) (ts ++ t ∷ [])) (sym none) (All-push (λ x. (t ≤ℤ x) × (x ≤ℤ t)) [] t (All-nil (λ x. (t ≤ℤ x) × (x ≤ℤ t))) (≤ℤ_refl t, ≤ℤ_refl t)),
)

-- one of two times
either : (times : List ℤ) (t a : ℤ) (b : Bool) → Contains times a → Contains (times ++ t ∷ []) (cond b t a)
either times t a true h = Contains-push times t
either times t a false h = Contains-append_left times (t ∷ []) a h

other : (times : List ℤ) (t a : ℤ) (b : Bool) → Contains times a → Contains (times ++ t ∷ []) (cond b a t)
other times t a true h = Contains-append_left times (t ∷ []) a h
other times t a false h = Contains-push times t

-- a later time
pub next_time : (times : List ℤ) (t a b : ℤ) → AreEnds times (Some (a, b)) → AreEnds (times ++ t ∷ []) (Some (int_min a t, int_max b t))
next_time times t a b (least, greatest, between) =
    let low = fold-int_min_bounds a (t ∷ []) (int_min a t) refl in
    let high = fold-int_max_bounds b (t ∷ []) (int_max b t) refl in
    let under = All-head (λ x. int_min a t ≤ℤ x) t [] low.1 in
    let over = All-head (λ x. x ≤ℤ int_max b t) t [] high.1 in (
      either times t a (int_lt t a) least,
      other times t b (int_lt t b) greatest,
      All-push (λ x. (int_min a t ≤ℤ x) × (x ≤ℤ int_max b t)) times t
          (All-weaker (λ x. (a ≤ℤ x) × (x ≤ℤ b)) (λ x. (int_min a t ≤ℤ x) × (x ≤ℤ int_max b t)) (λ x h. (le_trans (int_min a t) a x low.0 h.0, le_trans x b (int_max b t) h.1 high.0)) times between)
          (under, over),
    )

-- the times of one sample more
pub times_on : (times : List ℤ) (samples : List SampleEntry) (i : ℕ) (d : SampleEntry) (t : ℤ) (ends : Option (ℤ × ℤ)) → i < length samples → t ≡ (slice_index_or samples i d).time
    → AreEnds ((times ++ map (λ (s : SampleEntry). s.time) (take i samples)) ++ t ∷ []) ends → AreEnds (times ++ map (λ (s : SampleEntry). s.time) (take (i + 1) samples)) ends
times_on times samples i d t ends within is h =
    let last : map (λ (s : SampleEntry). s.time) (take (i + 1) samples) ≡ map (λ (s : SampleEntry). s.time) (take i samples) ++ t ∷ [] =
    ap (map (λ (s : SampleEntry). s.time)) (take_more samples i d within) ∙ map-append (λ (s : SampleEntry). s.time) (take i samples) (slice_index_or samples i d ∷ [])
    ∙ ap (λ (z : ℤ). map (λ (s : SampleEntry). s.time) (take i samples) ++ z ∷ []) (sym is) in
    subst (λ (ts : List ℤ). AreEnds ts ends) (append_assoc times (map (λ (s : SampleEntry). s.time) (take i samples)) (t ∷ []) ∙ ap (λ (ts : List ℤ). times ++ ts) (sym last)) h
