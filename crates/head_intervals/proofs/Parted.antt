-- The series of a head in parts.
use Rattle.std.proofs.Common.{◌≡◌, ℕ, zero, suc, ◌+◌, ◌-◌, ◌*◌, ◌/◌, ◌<◌, ◌≤◌, List, [], ◌∷◌, ◌++◌, length, get_or, drop, take, map, refl, sym, ap, subst, ◌∙◌, arith}
use Rattle.std.specs.Prelude.{ℤ, Result, Ok, Err, IfOk, MatchResult, min}
use Rattle.std.specs.List.{AllZip, cons_option, range_with_len}
use Rattle.std.proofs.lemmas.List.{append-nil, drop-take, get_or-drop, length-drop, take_all, take_min, take_more, take-append-drop, take-take}
use Rattle.std.proofs.lemmas.List.Concat.{flat_map-append}
use Rattle.std.proofs.lemmas.List.Elements.{filter_map-append}
use Rattle.std.proofs.lemmas.Option.{unwrap_or-slice_get}
use Rattle.std.proofs.Math.Nat.{lt-div-mul-add}
use Rattle.xor_chunk.specs.declared.sample.Sample.{Sample}
use Rattle.head_column.specs.Histories.{History, no_history}
use Rattle.head_core.specs.Content.{Content}
use Rattle.head_core.specs.Heads.{history_at}
use Rattle.head_intervals.specs.declared.counting.HeadCounts.{HeadCounts}
use Rattle.head_intervals.specs.declared.intervals.Intervals.{Intervals}
use Rattle.head_intervals.specs.Intervals.{AreCounts, first_time}
use Rattle.head_intervals.specs.Parts.{AreHeadCounts, first_times_in, part_at, part_length, times_in}
use Rattle.head_intervals.proofs.Counted.{joined}

-- one series more of a part
pub one_more : (c : Content) (first n : ℕ) → first ≤ n → n < length c.histories → take (n + 1 - first) (drop first c.histories) ≡ take (n - first) (drop first c.histories) ++ history_at c n ∷ []
one_more c first n low lt =
    let rest : List History = drop first c.histories in
    let at : get_or rest (n - first) no_history ≡ history_at c n =
    get_or-drop first c.histories (n - first) no_history ∙ ap (λ (m : ℕ). get_or c.histories m no_history) (let e : first + (n - first) ≡ n = omega arith in e) ∙ sym (unwrap_or-slice_get c.histories n no_history) in
    ap (λ (m : ℕ). take m rest) (let e : n + 1 - first ≡ (n - first) + 1 = omega arith in e)
    ∙ take_more rest (n - first) no_history (omega (arith, length-drop first c.histories))
    ∙ ap (λ (h : History). take (n - first) rest ++ h ∷ []) at

-- no series yet
pub none_yet : (hs : List History) (first : ℕ) → take (first - first) (drop first hs) ≡ []
none_yet hs first = ap (λ (m : ℕ). take m (drop first hs)) (let e : first - first ≡ 0 = omega arith in e)

-- all series of a part
pub whole_part : (hs : List History) (p first n : ℕ) → first ≡ p * part_length → first ≤ length hs → n ≡ min (p * part_length + part_length) (length hs) → take (n - first) (drop first hs) ≡ part_at hs p
whole_part hs p first n is within end =
    let count : n - first ≡ min part_length (length (drop first hs)) = omega (arith, length-drop first hs) in
    ap (λ (m : ℕ). take m (drop first hs)) count ∙ take_min part_length (drop first hs) ∙ ap (λ (m : ℕ). take part_length (drop m hs)) is

-- one part more of all series
pub part_more : (hs : List History) (p : ℕ) → take ((p + 1) * part_length) hs ≡ take (p * part_length) hs ++ part_at hs p
part_more hs p =
    let m : ℕ = p * part_length in
    let n : ℕ = m + part_length in
    ap (λ (k : ℕ). take k hs) (let e : (p + 1) * part_length ≡ n = omega arith in e)
    ∙ sym (take-append-drop m (take n hs))
    ∙ ap (λ (xs : List History). xs ++ drop m (take n hs)) (take-take m n hs (omega arith))
    ∙ ap (λ (xs : List History). take m hs ++ xs) (drop-take m part_length hs)

-- all parts have all series
pub all_parts : (hs : List History) (n parts : ℕ) → n ≡ length hs → parts ≡ n / part_length + 1 → take (parts * part_length) hs ≡ hs
all_parts hs n parts len is =
    let over : n < n / part_length * part_length + part_length = lt-div-mul-add (omega arith) in
    take_all (parts * part_length) hs (omega (arith, over))

-- the times of a history
abbrev history_times : History → List ℤ
history_times h = map (λ (s : Sample). s.time) h.samples

pub times_push : (hs : List History) (h : History) → times_in (hs ++ h ∷ []) ≡ times_in hs ++ history_times h
times_push hs h = flat_map-append (λ (k : History). map (λ (s : Sample). s.time) k.samples) hs (h ∷ []) ∙ ap (λ (ts : List ℤ). times_in hs ++ ts) (append-nil (history_times h))

pub times_append : (hs ks : List History) → times_in (hs ++ ks) ≡ times_in hs ++ times_in ks
times_append hs ks = flat_map-append (λ (k : History). map (λ (s : Sample). s.time) k.samples) hs ks

first_push : (hs : List History) (h : History) → first_times_in (hs ++ h ∷ []) ≡ first_times_in hs ++ cons_option (first_time h.samples) []
first_push hs h = filter_map-append (λ (k : History). first_time k.samples) hs (h ∷ [])

first_append : (hs ks : List History) → first_times_in (hs ++ ks) ≡ first_times_in hs ++ first_times_in ks
first_append hs ks = filter_map-append (λ (k : History). first_time k.samples) hs ks

-- the counts with one series more
pub with_series : (i : Intervals) (before : List History) (h : History) (samples : List Sample) (d : HeadCounts) → samples ≡ h.samples
    → AreCounts i (times_in before ++ map (λ s. s.time) samples) d.samples.items → AreCounts i (first_times_in before ++ cons_option (first_time samples) []) d.series.items → AreHeadCounts i (before ++ h ∷ []) d
with_series i before h samples d is a b = record {
  samples = subst (λ (ts : List ℤ). AreCounts i ts d.samples.items) (ap (λ (ss : List Sample). times_in before ++ map (λ (s : Sample). s.time) ss) is ∙ sym (times_push before h)) a;
  series = subst (λ (ts : List ℤ). AreCounts i ts d.series.items) (ap (λ (ss : List Sample). first_times_in before ++ cons_option (first_time ss) []) is ∙ sym (first_push before h)) b;
}

-- the first of some samples
pub first_is : (samples : List Sample) (s : Sample) → 0 < length samples → s ≡ get_or samples 0 s → cons_option (first_time samples) [] ≡ s.time ∷ []
first_is [] s lt e = absurd (omega arith)
first_is (x ∷ more) s lt e = ap (λ (y : Sample). y.time ∷ []) (sym e)

pub none_first : (samples : List Sample) → length samples ≡ 0 → cons_option (first_time samples) [] ≡ []
none_first [] e = refl
none_first (x ∷ more) e = absurd (omega arith)

-- the counts of both these and those series
pub with_all : (i : Intervals) (before these : List History) (a b d : HeadCounts) → AreHeadCounts i before a → AreHeadCounts i these b
    → length d.samples.items ≡ length a.samples.items → ((k : ℕ) → get_or d.samples.items k 0 ≡ get_or a.samples.items k 0 + get_or b.samples.items k 0)
    → length d.series.items ≡ length a.series.items → ((k : ℕ) → get_or d.series.items k 0 ≡ get_or a.series.items k 0 + get_or b.series.items k 0) → AreHeadCounts i (before ++ these) d
with_all i before these a b d x y len_samples samples len_series series = record {
  samples = subst (λ (ts : List ℤ). AreCounts i ts d.samples.items) (sym (times_append before these)) (joined i (times_in before) (times_in these) a.samples.items b.samples.items d.samples.items x.samples y.samples len_samples samples);
  series = subst (λ (ts : List ℤ). AreCounts i ts d.series.items) (sym (first_append before these)) (joined i (first_times_in before) (first_times_in these) a.series.items b.series.items d.series.items x.series y.series len_series series);
}

-- where all went well
pub matched : {X E : Type 0} (r : Result X E) (P S : X → Type 0) (Q : E → Type 0) → MatchResult r P Q → ((x : X) → P x → S x) → IfOk r S
matched (Ok x) P S Q h f = f x h
matched (Err e) P S Q h f = tt

pub at_ok : {X E : Type 0} {r : Result X E} {x : X} → r ≡ Ok x → (S : X → Type 0) → IfOk r S → S x
at_ok e S h = subst (λ q. IfOk q S) e h

-- what threads give, in order
pub gathered : {A B E : Type 0} (R : A → B → Type 0) (xs : List A) (rs : List (Result B E)) (ys : List B) → AllZip (λ a r. IfOk r (R a)) xs rs → rs ≡ map Ok ys → AllZip R xs ys
gathered R [] [] [] h e = tt
gathered R [] [] (y ∷ ys) h e = absurd cc
gathered R [] (r ∷ rs) ys h e = absurd h
gathered R (x ∷ xs) [] ys h e = absurd h
gathered R (x ∷ xs) (r ∷ rs) [] h e = absurd cc
gathered R (x ∷ xs) (Err fault ∷ rs) (y ∷ ys) h e = absurd cc
gathered {A} {B} R (x ∷ xs) (Ok z ∷ rs) (y ∷ ys) h e =
    let first : z ≡ y = cc in
    let rest : rs ≡ map Ok ys = cc in
    (subst (R x) first h.0, gathered R xs rs ys h.1 rest)

-- each in its place
at_place : {B : Type 0} (R : ℕ → B → Type 0) (at n : ℕ) (ys : List B) (k : ℕ) (d : B) → AllZip R (range_with_len at n) ys → k < length ys → R (at + k) (get_or ys k d)
at_place R at zero [] k d h lt = absurd (omega arith)
at_place R at zero (y ∷ ys) k d h lt = absurd h
at_place R at (suc n) [] k d h lt = absurd h
at_place R at (suc n) (y ∷ ys) zero d h lt = (let e : at ≡ at + 0 = omega arith in subst (λ (m : ℕ). R m y) e h.0)
at_place R at (suc n) (y ∷ ys) (suc k) d h lt = (let e : (at + 1) + k ≡ at + suc k = omega arith in subst (λ (m : ℕ). R m (get_or ys k d)) e (at_place R (at + 1) n ys k d h.1 (omega arith)))

pub as_many : {B : Type 0} (R : ℕ → B → Type 0) (at n : ℕ) (ys : List B) → AllZip R (range_with_len at n) ys → length ys ≡ n
as_many R at zero [] h = refl
as_many R at zero (y ∷ ys) h = absurd h
as_many R at (suc n) [] h = absurd h
as_many R at (suc n) (y ∷ ys) h = ap suc (as_many R (at + 1) n ys h.1)

pub told_at : {B : Type 0} (R : ℕ → B → Type 0) (n : ℕ) (ys zs : List B) (k : ℕ) (y : B) → AllZip R (range_with_len 0 n) ys → zs ≡ ys → k < length zs → y ≡ get_or zs k y → R k y
told_at {B} R n ys zs k y h e lt is =
    let place : 0 + k ≡ k = omega arith in
    subst (λ (m : ℕ). R m y) place
    (subst (R (0 + k)) (sym (is ∙ ap (λ (xs : List B). get_or xs k y) e)) (at_place R 0 n ys k y h (omega (arith, ap length e))))
