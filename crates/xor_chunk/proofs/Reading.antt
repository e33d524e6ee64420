-- What the decoder takes.
use Rattle.std.proofs.Common.{◌≡◌, ℕ, zero, suc, ◌+◌, ◌-◌, ◌*◌, ◌/◌, ◌%◌, ◌^◌, ◌<◌, ◌≤◌, Bool, true, false, cond, eqb, List, [], ◌∷◌, ◌++◌, Option, Some, None, Result, Ok, Err, refl, sym, ap, ◌∙◌, subst, arith, length}
use Rattle.std.specs.Prelude.{bit_xor}
use Rattle.std.specs.Option.{option_map, IfSome, IfNone}
use Rattle.std.proofs.lemmas.Bool.{eqb-true, eqb-false, lt-ltb, le-ltb}
use Rattle.std.proofs.Math.Nat.{mod-eq_of_lt}
use Rattle.std.proofs.lemmas.Nat.{mod-pow-add, one_shl, pow_below, shl_whole}
use Rattle.xor_chunk.specs.Bits.{bits_of}
use Rattle.xor_chunk.specs.Chunks.{width}
use Rattle.xor_chunk.specs.Reading.{number_at, widened, near_at, step_at, within_at, or_short, found_map, ◌>>=◌, window_of, window_at, changed_at, value_at, next, sample_at}
use Rattle.xor_chunk.specs.declared.before.BitWindow.{BitWindow}
use Rattle.xor_chunk.specs.declared.before.Before.{Before}
use Rattle.xor_chunk.specs.declared.fault.XorFault.{XorFault}
use Rattle.xor_chunk.specs.declared.fault.XorFault.TheVariants.{TooShort}

-- ---- numbers

digit_worth : (d p r : ℕ) (b : Bool) → eqb d 1 ≡ b → d < 2 → cond b p 0 + r ≡ d * p + r
digit_worth d p r true e h = (let one : d ≡ 1 = eqb-true d 1 e in let plain : p + r ≡ 1 * p + r = omega arith in plain ∙ ap (λ (k : ℕ). k * p + r) (sym one))
digit_worth d p r false e h = (let ne : d ≡ 1 → ⊥ = eqb-false d 1 e in let none : d ≡ 0 = omega arith in let plain : 0 + r ≡ 0 * p + r = omega arith in plain ∙ ap (λ (k : ℕ). k * p + r) (sym none))

pub number_behind : (k n : ℕ) (new : List Bool) → number_at k (bits_of k n ++ new) ≡ Some (n % 2 ^ k, new)
unfolding number_at bits_of
number_behind zero n new = (let none : 0 ≡ n % 2 ^ 0 = omega arith in ap (λ (m : ℕ). Some (m, new)) none)
number_behind (suc k) n new =
    let d : ℕ = n / 2 ^ k % 2 in
    let place : 1 + k ≡ suc k = omega arith in
    let worth = digit_worth d (2 ^ k) (n % 2 ^ k) (eqb d 1) refl (omega arith) in
    let whole : d * 2 ^ k + n % 2 ^ k ≡ n % 2 ^ suc k = sym (mod-pow-add n 1 k) ∙ ap (λ (m : ℕ). n % 2 ^ m) place in
    ap (option_map (λ (x : ℕ × List Bool). (cond (eqb d 1) (2 ^ k) 0 + x.0, x.1))) (number_behind k n new) ∙ ap (λ (m : ℕ). Some (m, new)) (worth ∙ whole)

pub number_found : (k n : ℕ) (old new : List Bool) → n < 2 ^ k → old ≡ bits_of k n ++ new → Some (n, new) ≡ number_at k old
number_found k n old new h e = sym (ap (number_at k) e ∙ number_behind k n new ∙ ap (λ (m : ℕ). Some (m, new)) (mod-eq_of_lt h))

pub number_short : (k : ℕ) (old : List Bool) → length old < k → None ≡ number_at k old
unfolding number_at
number_short zero old h = absurd (omega arith)
number_short (suc k) [] h = refl
number_short (suc k) (b ∷ old) h = ap (option_map (λ (x : ℕ × List Bool). (cond b (2 ^ k) 0 + x.0, x.1))) (number_short k old (omega arith))

pub number_exact : (k : ℕ) (r : Option ℕ) (old new : List Bool) → IfSome r (λ n. n < 2 ^ k) → IfSome r (λ n. old ≡ bits_of k n ++ new) → IfNone r (length old < k) → option_map (λ n. (n, new)) r ≡ number_at k old
number_exact k None old new h e s = number_short k old s
number_exact k (Some n) old new h e s = number_found k n old new h e

-- ---- times

pub near_none : (k : ℕ) (old : List Bool) → length old < k + 1 → None ≡ near_at k old
near_none k old h = ap (option_map (λ (x : ℕ × List Bool). (widened k x.0, x.1))) (number_short (k + 1) old h)

near_found : (k low : ℕ) (old new : List Bool) → low < 2 ^ (k + 1) → old ≡ bits_of (k + 1) low ++ new → Some (widened k low, new) ≡ near_at k old
near_found k low old new h e = ap (option_map (λ (x : ℕ × List Bool). (widened k x.0, x.1))) (number_found (k + 1) low old new h e)

pub near_far : (k low : ℕ) (old new : List Bool) → k < 32 → low < 2 ^ (k + 1) → old ≡ bits_of (k + 1) low ++ new → 1 * 2 ^ k % 2 ^ 64 < low → Some (low + (2 ^ 64 - 1 - 1 * 2 ^ (k + 1) % 2 ^ 64) + 1, new) ≡ near_at k old
near_far k low old new few h e far =
    let p : 1 * 2 ^ k % 2 ^ 64 ≡ 2 ^ k = one_shl k 64 (omega arith) in
    let q : 1 * 2 ^ (k + 1) % 2 ^ 64 ≡ 2 ^ (k + 1) = one_shl (k + 1) 64 (omega arith) in
    let above : 2 ^ k < low = omega (arith, p, far) in
    let room : 2 ^ (k + 1) < 2 ^ 64 = pow_below (k + 1) 64 (omega arith) in
    let sum : low + (2 ^ 64 - 1 - 1 * 2 ^ (k + 1) % 2 ^ 64) + 1 ≡ low + (2 ^ 64 - 2 ^ (k + 1)) = omega (arith, q, room) in
    let wide : low + (2 ^ 64 - 2 ^ (k + 1)) ≡ widened k low = ap (λ (b : Bool). cond b (low + (2 ^ 64 - 2 ^ (k + 1))) low) (sym (lt-ltb (2 ^ k) low above)) in
    ap (λ (n : ℕ). Some (n, new)) (sum ∙ wide) ∙ near_found k low old new h e

pub near_small : (k low : ℕ) (old new : List Bool) → k < 32 → low < 2 ^ (k + 1) → old ≡ bits_of (k + 1) low ++ new → low ≤ 1 * 2 ^ k % 2 ^ 64 → Some (low, new) ≡ near_at k old
near_small k low old new few h e near =
    let p : 1 * 2 ^ k % 2 ^ 64 ≡ 2 ^ k = one_shl k 64 (omega arith) in
    let below : low ≤ 2 ^ k = omega (arith, p, near) in
    let wide : low ≡ widened k low = ap (λ (b : Bool). cond b (low + (2 ^ 64 - 2 ^ (k + 1))) low) (sym (le-ltb (2 ^ k) low below)) in
    ap (λ (n : ℕ). Some (n, new)) wide ∙ near_found k low old new h e

-- one bit after another
pub then_bit : (bits rest : List Bool) (b v : Bool) → bits ≡ b ∷ rest → b ≡ v → bits ≡ v ∷ rest
then_bit bits rest b v e h = e ∙ ap (λ (x : Bool). x ∷ rest) h

-- ---- values

pub within_none : (o : Option BitWindow) (r : Option ℕ) (old new : List Bool) → o ≡ None → IfSome r (λ n. n < 2 ^ 64) → IfSome r (λ n. old ≡ bits_of 64 n ++ new) → IfNone r (length old < 64) → option_map (λ n. (n, new)) r ≡ within_at o old
unfolding within_at
within_none o r old new none h e s = number_exact 64 r old new h e s ∙ ap (λ (w : Option BitWindow). within_at w old) (sym none)

pub within_short : (o : Option BitWindow) (w : BitWindow) (k : ℕ) (old : List Bool) → o ≡ Some w → k ≡ width w → length old < k → None ≡ within_at o old
unfolding within_at
within_short o w k old is size h = ap (option_map (λ (x : ℕ × List Bool). (x.0 * 2 ^ w.trailing, x.1))) (number_short (width w) old (subst (λ (m : ℕ). length old < m) size h)) ∙ ap (λ (v : Option BitWindow). within_at v old) (sym is)

pub within_found : (o : Option BitWindow) (w : BitWindow) (k n : ℕ) (old new : List Bool) → o ≡ Some w → k ≡ width w → w.leading + w.trailing < 64 → n < 2 ^ k → old ≡ bits_of k n ++ new → Some (n * 2 ^ w.trailing % 2 ^ 64, new) ≡ within_at o old
unfolding within_at
within_found o w k n old new is size some h e =
    let fits : n < 2 ^ width w = subst (λ (m : ℕ). n < 2 ^ m) size h in
    let there : old ≡ bits_of (width w) n ++ new = subst (λ (m : ℕ). old ≡ bits_of m n ++ new) size e in
    let whole : n * 2 ^ w.trailing % 2 ^ 64 ≡ n * 2 ^ w.trailing = shl_whole n (width w) w.trailing 64 fits (omega arith) in
    ap (λ (m : ℕ). Some (m, new)) whole ∙ ap (option_map (λ (x : ℕ × List Bool). (x.0 * 2 ^ w.trailing, x.1))) (number_found (width w) n old new fits there) ∙ ap (λ (v : Option BitWindow). within_at v old) (sym is)

pub window_short : (old : List Bool) → length old < 11 → Err TooShort ≡ window_at old
unfolding window_at
window_short old h = ap (λ (r : Option (ℕ × List Bool)). or_short r >>= λ head. (window_of head.0 >>= λ w. Ok (w, head.1))) (number_short 11 old h)

pub window_found : (r : Result BitWindow XorFault) (head : ℕ) (old new : List Bool) → r ≡ window_of head → head < 2 ^ 11 → old ≡ bits_of 11 head ++ new → (r >>= λ w. Ok (w, new)) ≡ window_at old
unfolding window_at
window_found r head old new is h e =
    ap (λ (x : Result BitWindow XorFault). x >>= λ w. Ok (w, new)) is ∙ ap (λ (x : Option (ℕ × List Bool)). or_short x >>= λ y. (window_of y.0 >>= λ w. Ok (w, y.1))) (number_found 11 head old new h e)

pub changed_short : (v : ℕ) (o : Option BitWindow) (old : List Bool) → None ≡ within_at o old → Err TooShort ≡ changed_at v o old
unfolding changed_at
changed_short v o old e = ap (λ (r : Option (ℕ × List Bool)). or_short r >>= λ xor. Ok (bit_xor v xor.0, o, xor.1)) e

pub changed_found : (v x : ℕ) (o : Option BitWindow) (old new : List Bool) → Some (x, new) ≡ within_at o old → Ok (bit_xor v x, o, new) ≡ changed_at v o old
unfolding changed_at
changed_found v x o old new e = ap (λ (r : Option (ℕ × List Bool)). or_short r >>= λ xor. Ok (bit_xor v xor.0, o, xor.1)) e

pub value_none : (v : ℕ) (o : Option BitWindow) (old : List Bool) → old ≡ [] → Err TooShort ≡ value_at o v old
unfolding value_at
value_none v o old e = sym (ap (value_at o v) e)

pub value_same : (v : ℕ) (o : Option BitWindow) (old new : List Bool) → old ≡ false ∷ new → Ok (v, o, new) ≡ value_at o v old
unfolding value_at
value_same v o old new e = sym (ap (value_at o v) e)

pub value_cut : (v : ℕ) (o : Option BitWindow) (old one : List Bool) → old ≡ true ∷ one → one ≡ [] → Err TooShort ≡ value_at o v old
unfolding value_at
value_cut v o old one e f = sym (ap (value_at o v) (e ∙ ap (λ (bs : List Bool). true ∷ bs) f))

pub value_again : (v : ℕ) (o : Option BitWindow) (old one two : List Bool) → old ≡ true ∷ one → one ≡ false ∷ two → changed_at v o two ≡ value_at o v old
unfolding value_at
value_again v o old one two e f = sym (ap (value_at o v) (e ∙ ap (λ (bs : List Bool). true ∷ bs) f))

value_opens : (v : ℕ) (o : Option BitWindow) (old one two : List Bool) → old ≡ true ∷ one → one ≡ true ∷ two → (window_at two >>= λ x. changed_at v (Some x.0) x.1) ≡ value_at o v old
unfolding value_at
value_opens v o old one two e f = sym (ap (value_at o v) (e ∙ ap (λ (bs : List Bool). true ∷ bs) f))

pub value_bad : (v : ℕ) (o : Option BitWindow) (old one two : List Bool) (fault : XorFault) → old ≡ true ∷ one → one ≡ true ∷ two → Err fault ≡ window_at two → Err fault ≡ value_at o v old
value_bad v o old one two fault e f h = ap (λ (r : Result (BitWindow × List Bool) XorFault). r >>= λ x. changed_at v (Some x.0) x.1) h ∙ value_opens v o old one two e f

pub value_new : (v : ℕ) (o : Option BitWindow) (old one two three : List Bool) (w : BitWindow) → old ≡ true ∷ one → one ≡ true ∷ two → Ok (w, three) ≡ window_at two → changed_at v (Some w) three ≡ value_at o v old
value_new v o old one two three w e f h = ap (λ (r : Result (BitWindow × List Bool) XorFault). r >>= λ x. changed_at v (Some x.0) x.1) h ∙ value_opens v o old one two e f

-- ---- samples

pub sample_short : (b : Before) (old : List Bool) → None ≡ step_at old → Err TooShort ≡ sample_at b old
unfolding sample_at
sample_short b old e = ap (λ (r : Option (ℕ × List Bool)). or_short r >>= λ step. (value_at b.window b.value step.1 >>= λ value. Ok (next b step.0 value.0 value.1, value.2))) e

pub sample_bad : (b : Before) (old one : List Bool) (step : ℕ) (fault : XorFault) → Some (step, one) ≡ step_at old → Err fault ≡ value_at b.window b.value one → Err fault ≡ sample_at b old
unfolding sample_at
sample_bad b old one step fault e f =
    ap (λ (r : Result (ℕ × Option BitWindow × List Bool) XorFault). r >>= λ value. Ok (next b step value.0 value.1, value.2)) f
    ∙ ap (λ (r : Option (ℕ × List Bool)). or_short r >>= λ x. (value_at b.window b.value x.1 >>= λ value. Ok (next b x.0 value.0 value.1, value.2))) e

pub sample_found : (b : Before) (old one two : List Bool) (step v : ℕ) (o : Option BitWindow) → Some (step, one) ≡ step_at old → Ok (v, o, two) ≡ value_at b.window b.value one → Ok (next b step v o, two) ≡ sample_at b old
unfolding sample_at
sample_found b old one two step v o e f =
    ap (λ (r : Result (ℕ × Option BitWindow × List Bool) XorFault). r >>= λ value. Ok (next b step value.0 value.1, value.2)) f
    ∙ ap (λ (r : Option (ℕ × List Bool)). or_short r >>= λ x. (value_at b.window b.value x.1 >>= λ value. Ok (next b x.0 value.0 value.1, value.2))) e

pub mapped : {A : Type 0} (r : Result A XorFault) (new : List Bool) → found_map {B = A × List Bool} (λ x. (x, new)) r ≡ (r >>= λ x. Ok (x, new))
mapped (Err fault) new = refl
mapped (Ok x) new = refl
