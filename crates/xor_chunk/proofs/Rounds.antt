-- What is written of a sample is read.
use Rattle.std.proofs.Common.{◌≡◌, ℕ, suc, ◌+◌, ◌-◌, ◌*◌, ◌/◌, ◌%◌, ◌^◌, ◌<◌, ◌≤◌, Bool, true, false, cond, eqb, leb, ltb, List, [], ◌∷◌, ◌++◌, Option, Some, None, Result, Ok, Err, ⊎_elim, inl, inr, ◌⊎◌, refl, sym, ap, ◌∙◌, arith, append_assoc, length}
use Rattle.std.specs.Prelude.{bit_xor, ◌||◌, All, FitsSigned, ℤ, pos, negsuc}
use Rattle.std.specs.Int.{w64, cast_signed}
use Rattle.std.specs.Int.Bits.{xor_assoc, xor_self, xor_zero_l, xor_zero_r}
use Rattle.std.specs.Option.{option_map}
use Rattle.std.proofs.lemmas.Bool.{eqb-true, eqb-false, ltb-true, leb-true, lt-ltb, le-ltb, ne_eqb, eq-eqb, cases_lt}
use Rattle.std.proofs.lemmas.Int.{to_z-of_z}
use Rattle.std.proofs.lemmas.List.{append-nil}
use Rattle.std.proofs.lemmas.List.Elements.{All-head, All-tail}
use Rattle.std.proofs.lemmas.Nat.{xor_lt, mod_below, pow_pos}
use Rattle.xor_chunk.specs.Bits.{bits_of}
use Rattle.xor_chunk.specs.Samples.{IsFit}
use Rattle.xor_chunk.specs.Chunks.{pattern, plus, minus, is_near, step_bits, opened, width, within, opening, reused, used, changed_bits, value_bits, window_after, sample_bits, after, samples_bits}
use Rattle.xor_chunk.specs.Private.{Holds}
use Rattle.xor_chunk.specs.Reading.{widened, near_at, step_at, within_at, or_short, ◌>>=◌, said_width, window_of, window_at, changed_at, value_at, next, sample_at, sample_of, samples_at}
use Rattle.xor_chunk.specs.declared.sample.Sample.{Sample}
use Rattle.xor_chunk.specs.declared.before.BitWindow.{BitWindow}
use Rattle.xor_chunk.specs.declared.before.Before.{Before}
use Rattle.xor_chunk.specs.declared.fault.XorFault.{XorFault}
use Rattle.xor_chunk.specs.declared.fault.XorFault.TheVariants.{BadWindow}
use Rattle.xor_chunk.proofs.Bits.{bits_of-join}
use Rattle.xor_chunk.proofs.Windows.{opened_holds, opened_leading, reused_holds, reused_is}
use Rattle.xor_chunk.proofs.Reading.{number_found}

-- ---- 64 bits

pub plus_minus : (a t : ℕ) → a < 2 ^ 64 → t < 2 ^ 64 → plus a (minus t a) ≡ t
plus_minus a t h k = omega arith

pub minus_small : (a t : ℕ) → minus t a < 2 ^ 64
minus_small a t = omega arith

pub xor_back : (v w : ℕ) → bit_xor v (bit_xor v w) ≡ w
xor_back v w = sym (xor_assoc v v w) ∙ ap (λ (n : ℕ). bit_xor n w) (xor_self v) ∙ xor_zero_l w

same_value : (v w : ℕ) → bit_xor v w ≡ 0 → v ≡ w
same_value v w h = sym (xor_zero_r v) ∙ ap (bit_xor v) (sym h) ∙ xor_back v w

-- ---- times

pub near_cases : (k d : ℕ) → is_near k d ≡ true → (d ≤ 2 ^ k) ⊎ (2 ^ 64 - 2 ^ k < d)
unfolding is_near
near_cases k d h = by (leb d (2 ^ k)) refl h
  where
    by : (b : Bool) → leb d (2 ^ k) ≡ b → (b || ltb (2 ^ 64 - 2 ^ k) d) ≡ true → (d ≤ 2 ^ k) ⊎ (2 ^ 64 - 2 ^ k < d)
    by true e p = inl (leb-true d (2 ^ k) e)
    by false e p = inr (ltb-true (2 ^ 64 - 2 ^ k) d p)

near_round : (k low d : ℕ) (rest : List Bool) → low < 2 ^ (k + 1) → widened k low ≡ d → near_at k (bits_of (k + 1) low ++ rest) ≡ Some (d, rest)
near_round k low d rest h e = sym (ap (option_map (λ (x : ℕ × List Bool). (widened k x.0, x.1))) (number_found (k + 1) low (bits_of (k + 1) low ++ rest) rest h refl)) ∙ ap (λ (n : ℕ). Some (n, rest)) e

widened_by : (p low wide d : ℕ) → (p < low → wide ≡ d) → (low ≤ p → low ≡ d) → cond (ltb p low) wide low ≡ d
widened_by p low wide d f g = ⊎_elim (λ (h : p < low). ap (λ (b : Bool). cond b wide low) (lt-ltb p low h) ∙ f h) (λ (h : low ≤ p). ap (λ (b : Bool). cond b wide low) (le-ltb p low h) ∙ g h) (cases_lt p low)

widened_14 : (d : ℕ) → d < 2 ^ 64 → is_near 13 d ≡ true → widened 13 (d % 2 ^ 14) ≡ d
widened_14 d fits h = ⊎_elim
    (λ (p : d ≤ 2 ^ 13). widened_by (2 ^ 13) (d % 2 ^ 14) (d % 2 ^ 14 + (2 ^ 64 - 2 ^ 14)) d (λ q. absurd (omega arith)) (λ q. omega arith))
    (λ (p : 2 ^ 64 - 2 ^ 13 < d). widened_by (2 ^ 13) (d % 2 ^ 14) (d % 2 ^ 14 + (2 ^ 64 - 2 ^ 14)) d (λ q. omega arith) (λ q. absurd (omega arith)))
    (near_cases 13 d h)

widened_17 : (d : ℕ) → d < 2 ^ 64 → is_near 16 d ≡ true → widened 16 (d % 2 ^ 17) ≡ d
widened_17 d fits h = ⊎_elim
    (λ (p : d ≤ 2 ^ 16). widened_by (2 ^ 16) (d % 2 ^ 17) (d % 2 ^ 17 + (2 ^ 64 - 2 ^ 17)) d (λ q. absurd (omega arith)) (λ q. omega arith))
    (λ (p : 2 ^ 64 - 2 ^ 16 < d). widened_by (2 ^ 16) (d % 2 ^ 17) (d % 2 ^ 17 + (2 ^ 64 - 2 ^ 17)) d (λ q. omega arith) (λ q. absurd (omega arith)))
    (near_cases 16 d h)

widened_20 : (d : ℕ) → d < 2 ^ 64 → is_near 19 d ≡ true → widened 19 (d % 2 ^ 20) ≡ d
widened_20 d fits h = ⊎_elim
    (λ (p : d ≤ 2 ^ 19). widened_by (2 ^ 19) (d % 2 ^ 20) (d % 2 ^ 20 + (2 ^ 64 - 2 ^ 20)) d (λ q. absurd (omega arith)) (λ q. omega arith))
    (λ (p : 2 ^ 64 - 2 ^ 19 < d). widened_by (2 ^ 19) (d % 2 ^ 20) (d % 2 ^ 20 + (2 ^ 64 - 2 ^ 20)) d (λ q. omega arith) (λ q. absurd (omega arith)))
    (near_cases 19 d h)

step_by : (d : ℕ) (rest : List Bool) (a b c e : Bool) → d < 2 ^ 64 → eqb d 0 ≡ a → is_near 13 d ≡ b → is_near 16 d ≡ c → is_near 19 d ≡ e → step_at (step_bits d ++ rest) ≡ Some (d, rest)
unfolding step_at step_bits
step_by d rest true b c e fits p q r s = (let zero_is : 0 ≡ d = sym (eqb-true d 0 p) in rw p (ap (λ (n : ℕ). Some (n, rest)) zero_is))
step_by d rest false true c e fits p q r s = rw (p, q) (near_round 13 (d % 2 ^ 14) d rest (mod_below d (2 ^ 14) (pow_pos 14)) (widened_14 d fits q))
step_by d rest false false true e fits p q r s = rw (p, q, r) (near_round 16 (d % 2 ^ 17) d rest (mod_below d (2 ^ 17) (pow_pos 17)) (widened_17 d fits r))
step_by d rest false false false true fits p q r s = rw (p, q, r, s) (near_round 19 (d % 2 ^ 20) d rest (mod_below d (2 ^ 20) (pow_pos 20)) (widened_20 d fits s))
step_by d rest false false false false fits p q r s = rw (p, q, r, s) (sym (number_found 64 d (bits_of 64 d ++ rest) rest fits refl))

pub step_round : (d : ℕ) (rest : List Bool) → d < 2 ^ 64 → step_at (step_bits d ++ rest) ≡ Some (d, rest)
step_round d rest fits = step_by d rest (eqb d 0) (is_near 13 d) (is_near 16 d) (is_near 19 d) fits refl refl refl refl

-- ---- values

within_round : (w : BitWindow) (x : ℕ) (rest : List Bool) → Holds w x → within_at (Some w) (within w x ++ rest) ≡ Some (x, rest)
unfolding within_at within
within_round w x rest h =
    sym (ap (option_map (λ (y : ℕ × List Bool). (y.0 * 2 ^ w.trailing, y.1))) (number_found (width w) (x / 2 ^ w.trailing) (bits_of (width w) (x / 2 ^ w.trailing) ++ rest) rest h.small refl))
    ∙ ap (λ (n : ℕ). Some (n, rest)) h.whole

changed_round : (v x : ℕ) (w : BitWindow) (rest : List Bool) → Holds w x → changed_at v (Some w) (within w x ++ rest) ≡ Ok (bit_xor v x, Some w, rest)
unfolding changed_at
changed_round v x w rest h = ap (λ (r : Option (ℕ × List Bool)). or_short r >>= λ y. Ok (bit_xor v y.0, Some w, y.1)) (within_round w x rest h)

said_back : (n : ℕ) → 0 < n → n ≤ 64 → said_width (n % 64) ≡ n
said_back n some most = ⊎_elim
    (λ (h : n < 64). let low : n % 64 ≡ n = omega arith in let ne : n % 64 ≡ 0 → ⊥ = omega arith in ap (λ (b : Bool). cond b 64 (n % 64)) (ne_eqb (n % 64) 0 ne) ∙ low)
    (λ (h : 64 ≤ n). let low : n % 64 ≡ 0 = omega arith in let is : 64 ≡ n = omega arith in ap (λ (b : Bool). cond b 64 (n % 64)) (eq-eqb (n % 64) 0 low) ∙ is)
    (cases_lt n 64)

window_round : (w : BitWindow) → w.leading + w.trailing < 64 → window_of (w.leading * 2 ^ 6 + width w % 64) ≡ Ok w
unfolding window_of
window_round w h =
    let head : ℕ = w.leading * 2 ^ 6 + width w % 64 in
    let upper : head / 64 ≡ w.leading = omega arith in
    let low : head % 64 ≡ width w % 64 = omega arith in
    let said : said_width (head % 64) ≡ width w = ap said_width low ∙ said_back (width w) (omega arith) (omega arith) in
    let test : ltb 64 (head / 64 + said_width (head % 64)) ≡ false = le-ltb 64 (head / 64 + said_width (head % 64)) (omega (arith, upper, said)) in
    let behind : 64 - head / 64 - said_width (head % 64) ≡ w.trailing = omega (arith, upper, said) in
    ap (λ (b : Bool). cond b (Err BadWindow) (Ok (record { leading = head / 64; trailing = 64 - head / 64 - said_width (head % 64) }))) test ∙ ap (λ (l : ℕ). Ok (record { leading = l; trailing = 64 - head / 64 - said_width (head % 64) })) upper ∙ ap (λ (t : ℕ). Ok (record { leading = w.leading; trailing = t })) behind

window_at_round : (w : BitWindow) (rest : List Bool) → w.leading < 32 → w.leading + w.trailing < 64 → window_at ((bits_of 5 w.leading ++ bits_of 6 (width w % 64)) ++ rest) ≡ Ok (w, rest)
unfolding window_at
window_at_round w rest lead some =
    let low : width w % 64 < 2 ^ 6 = omega arith in
    let head : ℕ = w.leading * 2 ^ 6 + width w % 64 in
    let joined : (bits_of 5 w.leading ++ bits_of 6 (width w % 64)) ++ rest ≡ bits_of 11 head ++ rest = ap (λ (bs : List Bool). bs ++ rest) (sym (bits_of-join 5 6 w.leading (width w % 64) low)) in
    let fits : head < 2 ^ 11 = omega arith in
    sym (ap (λ (r : Option (ℕ × List Bool)). or_short r >>= λ y. (window_of y.0 >>= λ v. Ok (v, y.1))) (number_found 11 head ((bits_of 5 w.leading ++ bits_of 6 (width w % 64)) ++ rest) rest fits joined))
    ∙ ap (λ (r : Result BitWindow XorFault). r >>= λ v. Ok (v, rest)) (window_round w some)

opening_round : (o : Option BitWindow) (v x : ℕ) (w : BitWindow) (rest : List Bool) → w.leading < 32 → Holds w x → value_at o v ((opening w ++ within w x) ++ rest) ≡ Ok (bit_xor v x, Some w, rest)
unfolding value_at opening
opening_round o v x w rest lead h =
    let head : List Bool = bits_of 5 w.leading ++ bits_of 6 (width w % 64) in
    ap (λ (bs : List Bool). value_at o v (true ∷ true ∷ bs)) (append_assoc head (within w x) rest)
    ∙ ap (λ (r : Result (BitWindow × List Bool) XorFault). r >>= λ y. changed_at v (Some y.0) y.1) (window_at_round w (within w x ++ rest) lead h.within) ∙ changed_round v x w rest h

again_round : (o : Option BitWindow) (v x : ℕ) (w : BitWindow) (rest : List Bool) → o ≡ Some w → Holds w x → value_at o v ((true ∷ false ∷ within w x) ++ rest) ≡ Ok (bit_xor v x, Some w, rest)
unfolding value_at
again_round o v x w rest is h = ap (λ (u : Option BitWindow). changed_at v u (within w x ++ rest)) is ∙ changed_round v x w rest h

changed_by : (o r : Option BitWindow) (v x : ℕ) (rest : List Bool) → 0 < x → x < 2 ^ 64 → reused o (opened x) ≡ r → value_at o v (changed_bits r x ++ rest) ≡ Ok (bit_xor v x, Some (used r (opened x)), rest)
unfolding changed_bits
changed_by o None v x rest some fits e = opening_round o v x (opened x) rest (opened_leading x) (opened_holds x some fits)
changed_by o (Some w) v x rest some fits e = again_round o v x w rest (reused_is o (opened x) w e) (reused_holds o x w some fits e)

value_by : (o : Option BitWindow) (v x : ℕ) (rest : List Bool) (same : Bool) → x < 2 ^ 64 → eqb x 0 ≡ same → value_at o v (value_bits o x ++ rest) ≡ Ok (bit_xor v x, window_after o x, rest)
unfolding value_bits window_after value_at
value_by o v x rest true fits e =
    let none : x ≡ 0 = eqb-true x 0 e in
    let stays : v ≡ bit_xor v x = sym (ap (bit_xor v) none ∙ xor_zero_r v) in
    rw e (ap (λ (n : ℕ). Ok (n, o, rest)) stays)
value_by o v x rest false fits e = (let ne : x ≡ 0 → ⊥ = eqb-false x 0 e in rw e (changed_by o (reused o (opened x)) v x rest (omega arith) fits refl))

pub value_round : (o : Option BitWindow) (v w : ℕ) (rest : List Bool) → v < 2 ^ 64 → w < 2 ^ 64 → value_at o v (value_bits o (bit_xor v w) ++ rest) ≡ Ok (w, window_after o (bit_xor v w), rest)
value_round o v w rest h k =
    let x : ℕ = bit_xor v w in
    value_by o v x rest (eqb x 0) (xor_lt 64 v w h k) refl ∙ ap (λ (n : ℕ). Ok (n, window_after o x, rest)) (xor_back v w)

-- ---- samples

-- what is kept of a sample before has 64 bits
pub record IsBefore (b : Before) : Type 0 where
  pub time : b.time < 2 ^ 64
  pub value : b.value < 2 ^ 64
  pub delta : b.delta < 2 ^ 64

pub pattern_small : (z : ℤ) → FitsSigned w64 z → pattern z < 2 ^ 64
pattern_small (pos n) h = omega (arith, h.sfits)
pattern_small (negsuc n) h = omega (arith, h.sfits)

pub after_before : (b : Before) (s : Sample) → IsFit s → IsBefore (after b s)
after_before b s fit = record { time = pattern_small s.time fit.time; value = pattern_small s.value fit.value; delta = minus_small b.time (pattern s.time) }

pub sample_back : (s : Sample) (b : Before) → IsFit s → b.time ≡ pattern s.time → b.value ≡ pattern s.value → sample_of b ≡ s
sample_back s b fit t v =
    let p = to_z-of_z w64 s.time fit.time in
    let q = to_z-of_z w64 s.value fit.value in
    ap (λ (n : ℕ). record { time = cast_signed w64 n; value = cast_signed w64 b.value }) t ∙ ap (λ (n : ℕ). record { time = cast_signed w64 (pattern s.time); value = cast_signed w64 n }) v
    ∙ ap (λ (z : ℤ). record { time = z; value = cast_signed w64 (pattern s.value) }) p ∙ ap (λ (z : ℤ). record { time = s.time; value = z }) q

sample_round : (b : Before) (s : Sample) (rest : List Bool) → IsBefore b → IsFit s → sample_at b (sample_bits b s ++ rest) ≡ Ok (after b s, rest)
unfolding sample_at
sample_round b s rest h fit =
    let t : ℕ = pattern s.time in
    let w : ℕ = pattern s.value in
    let delta : ℕ = minus t b.time in
    let step : ℕ = minus delta b.delta in
    let values : List Bool = value_bits b.window (bit_xor b.value w) in
    let ts : t < 2 ^ 64 = pattern_small s.time fit.time in
    let ws : w < 2 ^ 64 = pattern_small s.value fit.value in
    let ds : delta < 2 ^ 64 = minus_small b.time t in
    let d : plus b.delta step ≡ delta = plus_minus b.delta delta h.delta ds in
    let e : plus b.time delta ≡ t = plus_minus b.time t h.time ts in
    ap (λ (bs : List Bool). sample_at b bs) (append_assoc (step_bits step) values rest)
    ∙ ap (λ (r : Option (ℕ × List Bool)). or_short r >>= λ x. (value_at b.window b.value x.1 >>= λ value. Ok (next b x.0 value.0 value.1, value.2))) (step_round step (values ++ rest) (minus_small b.delta delta))
    ∙ ap (λ (r : Result (ℕ × Option BitWindow × List Bool) XorFault). r >>= λ value. Ok (next b step value.0 value.1, value.2)) (value_round b.window b.value w rest h.value ws)
    ∙ ap (λ (n : ℕ). Ok (record { time = plus b.time n; value = w; delta = n; window = window_after b.window (bit_xor b.value w) }, rest)) d
    ∙ ap (λ (n : ℕ). Ok (record { time = n; value = w; delta = delta; window = window_after b.window (bit_xor b.value w) }, rest)) e

pub samples_round : (more read : List Sample) (b : Before) (rest : List Bool) → IsBefore b → All IsFit more → samples_at (length more) read b (samples_bits b more ++ rest) ≡ Ok (read ++ more)
unfolding samples_at samples_bits
samples_round [] read b rest h fit = ap (λ (xs : List Sample). Ok xs) (sym (append-nil read))
samples_round (s ∷ more) read b rest h fit =
    let n : Before = after b s in
    let first : IsFit s = All-head IsFit s more fit in
    ap (λ (bs : List Bool). samples_at (suc (length more)) read b bs) (append_assoc (sample_bits b s) (samples_bits n more) rest)
    ∙ ap (λ (r : Result (Before × List Bool) XorFault). r >>= λ x. samples_at (length more) (read ++ sample_of x.0 ∷ []) x.0 x.1) (sample_round b s (samples_bits n more ++ rest) h first)
    ∙ ap (λ (x : Sample). samples_at (length more) (read ++ x ∷ []) n (samples_bits n more ++ rest)) (sample_back s n first refl refl)
    ∙ samples_round more (read ++ s ∷ []) n rest (after_before b s first) (All-tail IsFit s more fit) ∙ ap (λ (xs : List Sample). Ok xs) (append_assoc read (s ∷ []) more)
