-- The samples before a time, and those from it on.
use Rattle.std.proofs.Common.{◌≡◌, ℕ, ◌<◌, ◌≤◌, Bool, true, false, List, [], ◌∷◌, ◌++◌, All, length, get_or, take, drop, refl, sym, ap, ◌∙◌, arith}
use Rattle.std.specs.Prelude.{ℤ, ◌<ℤ◌, ◌&&◌, filter, int_le, int_lt, if◌then◌else◌}
use Rattle.std.specs.List.Sorted.{IsPartitionPoint}
use Rattle.std.proofs.lemmas.Int.{ints}
use Rattle.std.proofs.lemmas.List.{take-append-drop}
use Rattle.std.proofs.lemmas.List.Elements.{All-cons, All-nil, filter-append}
use Rattle.hw_bytes.proofs.Lists.{filter_none, filter_all, append_none}
use Rattle.xor_chunk.specs.declared.sample.Sample.{Sample}
use Rattle.head_column.specs.Samples.{Rises}
use Rattle.head_column.specs.Validity.{samples_before, samples_from}
use Rattle.head_column.proofs.Validity.{rises_rest}
use Rattle.head_column.proofs.Windows.{all_taken, all_dropped}

-- ---- samples that are all before a time, or from it on

abbrev pub AllFrom : ℤ → List Sample → Type 0
AllFrom t xs = All (λ s. int_lt s.time t ≡ false) xs

abbrev pub AllBefore : ℤ → List Sample → Type 0
AllBefore t xs = All (λ s. int_lt s.time t ≡ true) xs

is_from : (t u : ℤ) → int_lt u t ≡ false → int_le t u ≡ true
is_from t u h = grind (arith, ints)

not_from : (t u : ℤ) → int_lt u t ≡ true → int_le t u ≡ false
not_from t u h = grind (arith, ints)

pub from_all : (t : ℤ) (xs : List Sample) → AllFrom t xs → samples_from t xs ≡ xs
from_all t xs h = filter_all (λ s. int_le t s.time) xs (λ k d lt. is_from t (get_or xs k d).time (h k d lt))

pub before_none : (t : ℤ) (xs : List Sample) → AllFrom t xs → samples_before t xs ≡ []
before_none t xs h = filter_none (λ s. int_lt s.time t) xs h

pub from_none : (t : ℤ) (xs : List Sample) → AllBefore t xs → samples_from t xs ≡ []
from_none t xs h = filter_none (λ s. int_le t s.time) xs (λ k d lt. not_from t (get_or xs k d).time (h k d lt))

pub before_all : (t : ℤ) (xs : List Sample) → AllBefore t xs → samples_before t xs ≡ xs
before_all t xs h = filter_all (λ s. int_lt s.time t) xs h

abbrev pub from_append : (t : ℤ) (xs ys : List Sample) → samples_from t (xs ++ ys) ≡ samples_from t xs ++ samples_from t ys
from_append t xs ys = filter-append (λ (s : Sample). int_le t s.time) xs ys

abbrev pub before_append : (t : ℤ) (xs ys : List Sample) → samples_before t (xs ++ ys) ≡ samples_before t xs ++ samples_before t ys
before_append t xs ys = filter-append (λ (s : Sample). int_lt s.time t) xs ys

-- at the place to which a search comes
pub cut_there : (t : ℤ) (xs : List Sample) (n : ℕ) → n ≤ length xs → IsPartitionPoint (λ (s : Sample). int_lt s.time t ≡ true) (λ (s : Sample). int_lt s.time t ≡ false) xs n
    → (samples_before t xs ≡ take n xs) × (samples_from t xs ≡ drop n xs)
cut_there t xs n le p =
    let front : AllBefore t (take n xs) = all_taken (λ (s : Sample). int_lt s.time t ≡ true) xs n le p.0 in
    let rest : AllFrom t (drop n xs) = all_dropped (λ (s : Sample). int_lt s.time t ≡ false) xs n p.1 in
    let parts : take n xs ++ drop n xs ≡ xs = take-append-drop n xs in (
      ap (samples_before t) (sym parts) ∙ before_append t (take n xs) (drop n xs) ∙ ap (λ ys. ys ++ samples_before t (drop n xs)) (before_all t (take n xs) front)
          ∙ ap (λ ys. take n xs ++ ys) (before_none t (drop n xs) rest) ∙ append_none (take n xs),
      ap (samples_from t) (sym parts) ∙ from_append t (take n xs) (drop n xs) ∙ ap (λ ys. ys ++ samples_from t (drop n xs)) (from_none t (take n xs) front)
          ∙ from_all t (drop n xs) rest,
    )

-- ---- one list after another

pub rises_back : (xs ys : List Sample) → Rises (xs ++ ys) → Rises ys
rises_back [] ys h = h
rises_back (x ∷ xs) ys h = rises_back xs ys (rises_rest x (xs ++ ys) h)

pub rises_front : (xs ys : List Sample) → Rises (xs ++ ys) → Rises xs
rises_front [] ys h = tt
rises_front (x ∷ []) ys h = tt
rises_front (x ∷ y ∷ xs) ys h = (h.0, rises_front (y ∷ xs) ys h.1)

earlier : (t u v : ℤ) → u <ℤ v → int_lt v t ≡ true → int_lt u t ≡ true
earlier t u v h k = grind (arith, ints)

later : (t u v : ℤ) → int_lt u t ≡ false → u <ℤ v → int_lt v t ≡ false
later t u v h k = grind (arith, ints)

-- whether there are samples, and the last one is before time t
abbrev pub last_is_before : ℤ → List Sample → Bool
last_is_before t [] = false
last_is_before t (s ∷ []) = int_lt s.time t
last_is_before t (s ∷ r ∷ rest) = last_is_before t (r ∷ rest)

first_before : (t : ℤ) (s : Sample) (rest : List Sample) → Rises (s ∷ rest) → last_is_before t (s ∷ rest) ≡ true → int_lt s.time t ≡ true
first_before t s [] h e = e
first_before t s (r ∷ rest) h e = earlier t s.time r.time h.0 (first_before t r rest h.1 e)

-- if the last one is before the time, all are
pub all_before : (t : ℤ) (xs : List Sample) → Rises xs → last_is_before t xs ≡ true → AllBefore t xs
all_before t [] h e = All-nil (λ (s : Sample). int_lt s.time t ≡ true)
all_before t (s ∷ []) h e = All-cons (λ (s : Sample). int_lt s.time t ≡ true) s [] e (All-nil (λ (s : Sample). int_lt s.time t ≡ true))
all_before t (s ∷ r ∷ rest) h e = All-cons (λ (s : Sample). int_lt s.time t ≡ true) s (r ∷ rest) (first_before t s (r ∷ rest) h e) (all_before t (r ∷ rest) h.1 e)

pub all_later : (t : ℤ) (s : Sample) (ys : List Sample) → Rises (s ∷ ys) → int_lt s.time t ≡ false → AllFrom t ys
all_later t s [] h e = All-nil (λ (s : Sample). int_lt s.time t ≡ false)
all_later t s (y ∷ ys) h e =
    let next : int_lt y.time t ≡ false = later t s.time y.time e h.0 in
    All-cons (λ (s : Sample). int_lt s.time t ≡ false) y ys next (all_later t y ys h.1 next)

-- if the last one is not before the time, none that come later are
pub all_from : (t : ℤ) (xs ys : List Sample) → Rises (xs ++ ys) → 0 < length xs → last_is_before t xs ≡ false → AllFrom t ys
all_from t [] ys h some e = absurd (omega (arith, some))
all_from t (s ∷ []) ys h some e = all_later t s ys h e
all_from t (s ∷ r ∷ rest) ys h some e = all_from t (r ∷ rest) ys h.1 (omega arith) e

-- where a list is not over before the time, those after it have all their samples from it on
pub one_cut_from : (t : ℤ) (xs ys : List Sample) → Rises (xs ++ ys) → 0 < length xs → last_is_before t xs ≡ false → samples_from t (xs ++ ys) ≡ samples_from t xs ++ ys
one_cut_from t xs ys h some e = from_append t xs ys ∙ ap (λ zs. samples_from t xs ++ zs) (from_all t ys (all_from t xs ys h some e))

pub one_cut_before : (t : ℤ) (xs ys : List Sample) → Rises (xs ++ ys) → 0 < length xs → last_is_before t xs ≡ false → samples_before t (xs ++ ys) ≡ samples_before t xs
one_cut_before t xs ys h some e = before_append t xs ys ∙ ap (λ zs. samples_before t xs ++ zs) (before_none t ys (all_from t xs ys h some e)) ∙ append_none (samples_before t xs)

-- the samples from one time on that are before another
pub both_cut : (t u : ℤ) (xs : List Sample) → samples_before u (samples_from t xs) ≡ filter (λ s. int_le t s.time && int_lt s.time u) xs
both_cut t u [] = refl
both_cut t u (x ∷ xs) = by (int_le t x.time) (both_cut t u xs) where
  by : (b : Bool) → samples_before u (samples_from t xs) ≡ filter (λ s. int_le t s.time && int_lt s.time u) xs
      → samples_before u (if b then x ∷ samples_from t xs else samples_from t xs)
      ≡ (if b && int_lt x.time u then x ∷ filter (λ s. int_le t s.time && int_lt s.time u) xs else filter (λ s. int_le t s.time && int_lt s.time u) xs)
  by true rest = ap (λ ys. if int_lt x.time u then x ∷ ys else ys) rest
  by false rest = rest
