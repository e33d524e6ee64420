-- The least and the greatest of times.
use Rattle.std.proofs.Common.{◌≡◌, ℕ, ◌-◌, ◌<◌, List, [], ◌∷◌, ◌++◌, length, get_or, map, refl, sym, ap, subst, ◌∙◌, arith, Option, Some, FitsSigned, to_z, of_z, w64}
use Rattle.std.specs.Prelude.{ℤ, ◌≤ℤ◌, All, Contains}
use Rattle.std.specs.Int.{int_max, int_min}
use Rattle.std.proofs.lemmas.Int.{clamps, ints, by_lt_z, to_z-of_z}
use Rattle.std.proofs.lemmas.List.{get_or-map, length-map}
use Rattle.std.proofs.lemmas.List.Elements.{All-append, All-cons, All-head, All-nil, All-weaker, Contains-append_left, Contains-append_right, Contains-get_or}
use Rattle.head_column.specs.Samples.{Rises, Sample}
use Rattle.head_intervals.specs.Intervals.{AreEnds}

time : Sample → ℤ
time s = s.time

least_of : (ts us : List ℤ) (a b : ℤ) → Contains ts a → Contains us b → Contains (ts ++ us) (int_min a b)
least_of ts us a b x y =
    by_lt_z b a
    (λ lt. let e : b ≡ int_min a b = omega (arith, ints, clamps, lt) in subst (Contains (ts ++ us)) e (Contains-append_right ts us b y))
    (λ le. let e : a ≡ int_min a b = omega (arith, ints, clamps, le) in subst (Contains (ts ++ us)) e (Contains-append_left ts us a x))

greatest_of : (ts us : List ℤ) (a b : ℤ) → Contains ts a → Contains us b → Contains (ts ++ us) (int_max a b)
greatest_of ts us a b x y =
    by_lt_z b a
    (λ lt. let e : a ≡ int_max a b = omega (arith, ints, clamps, lt) in subst (Contains (ts ++ us)) e (Contains-append_left ts us a x))
    (λ le. let e : b ≡ int_max a b = omega (arith, ints, clamps, le) in subst (Contains (ts ++ us)) e (Contains-append_right ts us b y))

-- the ends of two lists together
pub both : (ts us : List ℤ) (first last begin end least greatest : ℤ) → AreEnds ts (Some (first, last)) → AreEnds us (Some (begin, end)) → least ≡ int_min first begin → greatest ≡ int_max last end → AreEnds (ts ++ us) (Some (least, greatest))
both ts us first last begin end least greatest a b low high =
    let low_a : least ≤ℤ first = omega (arith, ints, clamps, low) in
    let low_b : least ≤ℤ begin = omega (arith, ints, clamps, low) in
    let high_a : last ≤ℤ greatest = omega (arith, ints, clamps, high) in
    let high_b : end ≤ℤ greatest = omega (arith, ints, clamps, high) in (
      subst (Contains (ts ++ us)) (sym low) (least_of ts us first begin a.0 b.0),
      subst (Contains (ts ++ us)) (sym high) (greatest_of ts us last end a.1 b.1),
      All-append (λ (t : ℤ). (least ≤ℤ t) × (t ≤ℤ greatest)) ts us
          (All-weaker (λ (t : ℤ). (first ≤ℤ t) × (t ≤ℤ last)) (λ (t : ℤ). (least ≤ℤ t) × (t ≤ℤ greatest)) (λ t h. (omega (arith, ints, h.0, low_a), omega (arith, ints, h.1, high_a))) ts a.2)
          (All-weaker (λ (t : ℤ). (begin ≤ℤ t) × (t ≤ℤ end)) (λ (t : ℤ). (least ≤ℤ t) × (t ≤ℤ greatest)) (λ t h. (omega (arith, ints, h.0, low_b), omega (arith, ints, h.1, high_b))) us b.2),
    )

-- the last one
last_of : Sample → List Sample → Sample
last_of s [] = s
last_of s (u ∷ more) = last_of u more

from_first : (s : Sample) (more : List Sample) → Rises (s ∷ more) → All (λ t. s.time ≤ℤ t) (map time (s ∷ more))
unfolding time
from_first s [] h = All-cons (λ (t : ℤ). s.time ≤ℤ t) s.time [] (omega (arith, ints)) (All-nil (λ (t : ℤ). s.time ≤ℤ t))
from_first s (u ∷ more) h =
    All-cons (λ (t : ℤ). s.time ≤ℤ t) s.time (map time (u ∷ more)) (omega (arith, ints))
    (All-weaker (λ (t : ℤ). u.time ≤ℤ t) (λ (t : ℤ). s.time ≤ℤ t) (λ t le. omega (arith, ints, le, h.0)) (map time (u ∷ more)) (from_first u more h.1))

to_last : (s : Sample) (more : List Sample) → Rises (s ∷ more) → All (λ t. t ≤ℤ (last_of s more).time) (map time (s ∷ more))
unfolding time last_of
to_last s [] h = All-cons (λ (t : ℤ). t ≤ℤ s.time) s.time [] (omega (arith, ints)) (All-nil (λ (t : ℤ). t ≤ℤ s.time))
to_last s (u ∷ more) h =
    let rest = to_last u more h.1 in
    let next : u.time ≤ℤ (last_of u more).time = All-head (λ (t : ℤ). t ≤ℤ (last_of u more).time) u.time (map time more) rest in
    All-cons (λ (t : ℤ). t ≤ℤ (last_of u more).time) s.time (map time (u ∷ more)) (omega (arith, ints, h.0, next)) rest

last_at : (s : Sample) (more : List Sample) (d : Sample) → get_or (s ∷ more) (length more) d ≡ last_of s more
unfolding last_of
last_at s [] d = refl
last_at s (u ∷ more) d = last_at u more d

-- the ends of samples whose times rise
pub ends_are : (samples : List Sample) (first last : Sample) → Rises samples → 0 < length samples → first ≡ get_or samples 0 first → last ≡ get_or samples (length samples - 1) last → AreEnds (map (λ s. s.time) samples) (Some (first.time, last.time))
unfolding time
ends_are [] first last h lt a b = absurd (omega arith)
ends_are (s ∷ more) first last h lt a b =
    let place : length (s ∷ more) - 1 ≡ length more = omega arith in
    let end : last ≡ last_of s more = b ∙ ap (λ (n : ℕ). get_or (s ∷ more) n last) place ∙ last_at s more last in
    let begins : Contains (map time (s ∷ more)) s.time = Contains-get_or (map time (s ∷ more)) 0 s.time (omega (arith, length-map (s ∷ more) time)) in
    let ends : Contains (map time (s ∷ more)) last.time =
    subst (Contains (map time (s ∷ more))) (get_or-map time (s ∷ more) (length more) last last.time (omega arith) ∙ ap time (last_at s more last ∙ sym end))
    (Contains-get_or (map time (s ∷ more)) (length more) last.time (omega (arith, length-map (s ∷ more) time))) in
    let from = from_first s more h in
    let to = to_last s more h in (
      subst (λ (f : Sample). Contains (map time (s ∷ more)) f.time) (sym a) begins,
      ends,
      λ k d within. (
        subst (λ (f : Sample). f.time ≤ℤ get_or (map time (s ∷ more)) k d) (sym a) (from k d within),
        subst (λ (l : Sample). get_or (map time (s ∷ more)) k d ≤ℤ l.time) (sym end) (to k d within),
      ),
    )

-- so they are as the code has them
pub ends_told : (samples : List Sample) (first last : Sample) → Rises samples → 0 < length samples → first ≡ get_or samples 0 first → last ≡ get_or samples (length samples - 1) last → FitsSigned w64 first.time → FitsSigned w64 last.time
    → AreEnds (map (λ s. s.time) samples) (Some (to_z w64 (of_z w64 first.time), to_z w64 (of_z w64 last.time)))
ends_told samples first last rises lt a b fits_first fits_last =
    subst (λ (t : ℤ). AreEnds (map (λ (s : Sample). s.time) samples) (Some (t, to_z w64 (of_z w64 last.time)))) (sym (to_z-of_z w64 first.time fits_first))
    (subst (λ (t : ℤ). AreEnds (map (λ (s : Sample). s.time) samples) (Some (first.time, t))) (sym (to_z-of_z w64 last.time fits_last)) (ends_are samples first last rises lt a b))

-- the ends of two lists together, as the code has them
pub both_told : (ts us : List ℤ) (these those : Option (ℤ × ℤ)) (first last begin end least greatest : ℤ) → AreEnds ts these → these ≡ Some (first, last) → AreEnds us those → those ≡ Some (begin, end)
    → FitsSigned w64 first → FitsSigned w64 last → FitsSigned w64 begin → FitsSigned w64 end → FitsSigned w64 least → FitsSigned w64 greatest
    → least ≡ int_min (to_z w64 (of_z w64 first)) (to_z w64 (of_z w64 begin)) → greatest ≡ int_max (to_z w64 (of_z w64 last)) (to_z w64 (of_z w64 end))
    → AreEnds (ts ++ us) (Some (to_z w64 (of_z w64 least), to_z w64 (of_z w64 greatest)))
both_told ts us these those first last begin end least greatest a e b f fits_first fits_last fits_begin fits_end fits_least fits_greatest low high =
    both ts us first last begin end (to_z w64 (of_z w64 least)) (to_z w64 (of_z w64 greatest)) (subst (AreEnds ts) e a) (subst (AreEnds us) f b)
    (to_z-of_z w64 least fits_least ∙ low ∙ ap (λ (x : ℤ). int_min x (to_z w64 (of_z w64 begin))) (to_z-of_z w64 first fits_first) ∙ ap (int_min first) (to_z-of_z w64 begin fits_begin))
    (to_z-of_z w64 greatest fits_greatest ∙ high ∙ ap (λ (x : ℤ). int_max x (to_z w64 (of_z w64 end))) (to_z-of_z w64 last fits_last) ∙ ap (int_max last) (to_z-of_z w64 end fits_end))
