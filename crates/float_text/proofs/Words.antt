-- The words that a floating point number is written as, and what they are read as.
use Rattle.std.proofs.Common.{◌≡◌, ℕ, ℤ, zero, suc, ◌+◌, ◌/◌, ◌%◌, ◌^◌, ◌<◌, ◌≤◌, Bool, true, false, not, T, cond, eqb, List, [], ◌∷◌, ◌++◌, length, Option, None, Some, Result, Ok, Err, OnOk, is_ok, inl, inr, ◌⊎◌, ⊎_elim, ◌≢◌, drop, take, take-append-drop, get_or, if◌then◌else◌, ◌&&◌, eqb-true, ltb-true, length-drop, refl, sym, ap, subst, ◌∙◌, arith, rules, pow-suc}
use Rattle.std.proofs.lemmas.List.Elements.{All-nil, All-cons, All-append, All-same, All-from_recursion}
use Rattle.std.proofs.lemmas.Fmt.{digits_is_IsNumeral}
use Rattle.std.proofs.lemmas.Int.Digits.{digits_value-lt}
use Rattle.std.proofs.lemmas.Bool.{cases_lt, false≢true}
use Rattle.std.proofs.lemmas.Int.{to_z-of_z}
use Rattle.std.proofs.lemmas.Slice.Eq.{bytes_eq-Decides}
use Rattle.std.proofs.Math.Nat.{mod-le, pow-le-pow_right}
use Rattle.std.proofs.lemmas.Bool.Decides.{nat_tests}
use Rattle.std.specs.Char.{digit_value, is_digit}
use Rattle.std.specs.Float.{Float, NotNan, binary64, nan, inf, fin, float_is_finite, is_sign_negative}
use Rattle.std.specs.Float.Ieee.{is_nan, nan_bits, of_bits, to_bits}
use Rattle.std.specs.Fmt.{AppendsText, digits, digits_onto, digit_glyph, sign_text}
use Rattle.std.specs.List.{All, list_all}
use Rattle.std.specs.Option.{option_and_then, option_map, option_or}
use Rattle.std.specs.Result.{result_ok}
use Rattle.std.specs.Str.{bytes_eq, str_to_ascii_lowercase}
use Rattle.std.specs.Str.Parse.{AllDigits, IsNumeral, ParsesUnsigned, digits_value, without_leading_plus}
use Rattle.fast_float.proofs.OnLiterals.{fast_float_on_literals}
use Rattle.fast_float.specs.Parse.{parse_float}
use Rattle.fast_float.specs.Text.{exponent_text}
use Rattle.ryu.specs.Plain.{IsPlainNumber}
use lib.Chars.{codes}
use mir.Syntax.{w64}
use mir.Val.{SFits, of_z, to_z}
use lib.Ieee.Bits.{is_false, nan_bits_above, nan_bits_is, to_bits-of_bits}
use Rattle.float_text.specs.FloatText.{AppendsWord, IsGraphic, Reads, digits_bits, float_bits, name_bits, number_bits, stale_nan, normal_nan}

-- ---- numbers

pub number_spelled : (text : List ℕ) (x : Float) → NotNan x → parse_float binary64 text ≡ Some x → float_bits text ≡ Some (to_bits binary64 x)
unfolding float_bits
number_spelled text x number read =
    ap (λ (p : Option Float). option_or (option_and_then (λ y. cond (is_nan y) None (Some (to_bits binary64 y))) p) (name_bits text)) read
    ∙ ap (λ (b : Bool). option_or (cond b None (Some (to_bits binary64 x))) (name_bits text)) (is_false (is_nan x) number)

-- the bits that a number was made from
pub bits_kept : (n : ℕ) → n < 2 ^ 64 → NotNan (of_bits binary64 n) → to_bits binary64 (of_bits binary64 n) ≡ n
bits_kept n small number = to_bits-of_bits binary64 n small number

pub infinite : (x : Float) → NotNan x → float_is_finite x ≡ false → x ≡ inf (is_sign_negative x)
unfolding is_nan float_is_finite is_sign_negative
infinite nan number big = absurd number
infinite (inf s) number big = refl
infinite (fin s m e) number big = cc

pub infinity_read : parse_float binary64 (codes "+Inf") ≡ Some (inf false)
unfolding fast_float_on_literals
infinity_read = refl

pub minus_infinity_read : parse_float binary64 (codes "-Inf") ≡ Some (inf true)
unfolding fast_float_on_literals
minus_infinity_read = refl

pub not_nan : (n : ℕ) → nan_bits binary64 n ≡ false → NotNan (of_bits binary64 n)
not_nan n unmarked = subst (λ (b : Bool). T (not b)) (sym unmarked ∙ nan_bits_is binary64 n) tt

-- ---- names

pub normal_spelled : float_bits (codes "NaN") ≡ Some normal_nan
unfolding fast_float_on_literals is_nan float_bits
normal_spelled = refl

pub stale_spelled : float_bits (codes "stale") ≡ Some stale_nan
unfolding fast_float_on_literals is_nan float_bits
stale_spelled = refl

none_or_nan : (b : Bool) → option_and_then (λ (y : Float). cond (is_nan y) None (Some (to_bits binary64 y))) (cond b (Some nan) None) ≡ None
unfolding is_nan
none_or_nan true = refl
none_or_nan false = refl

-- `NaN:` and more is no number
no_number : (ds : List ℕ) → number_bits (codes "NaN:" ++ ds) ≡ None
unfolding fast_float_on_literals
no_number ds = none_or_nan (eqb 3 (length (codes "NaN:" ++ ds)))

named_by_digits : (ds : List ℕ) → float_bits (codes "NaN:" ++ ds) ≡ digits_bits ds
unfolding float_bits
named_by_digits ds = ap (λ (p : Option ℕ). option_or p (digits_bits ds)) (no_number ds)

not_true : (b : Bool) → ¬ (b ≡ true) → b ≡ false
not_true true h = absurd (h refl)
not_true false h = refl

-- any other text names no not-a-number
pub no_name : (text : List ℕ) → str_to_ascii_lowercase text ≢ codes "nan" → bytes_eq text (codes "stale") ≡ false
    → ((rest : List ℕ) → text ≢ codes "NaN:" ++ rest) → name_bits text ≡ None
no_name text other fresh front =
    ap (λ (b : Bool). if b then Some normal_nan
    else (if bytes_eq text (codes "stale") then Some stale_nan else (if bytes_eq (take 4 text) (codes "NaN:") then digits_bits (drop 4 text) else None)))
    (not_true (bytes_eq (str_to_ascii_lowercase text) (codes "nan")) (λ same. other ((bytes_eq-Decides (str_to_ascii_lowercase text) (codes "nan")).0 same)))
    ∙ ap (λ (b : Bool). if b then Some stale_nan else (if bytes_eq (take 4 text) (codes "NaN:") then digits_bits (drop 4 text) else None)) fresh
    ∙ ap (λ (b : Bool). if b then digits_bits (drop 4 text) else None)
    (not_true (bytes_eq (take 4 text) (codes "NaN:"))
    (λ same. front (drop 4 text) (sym (take-append-drop 4 text) ∙ ap (λ (l : List ℕ). l ++ drop 4 text) ((bytes_eq-Decides (take 4 text) (codes "NaN:")).0 same))))

-- ---- the digits of a not-a-number

all_hexadecimal : (ds : List ℕ) → AllDigits 16 ds → list_all (λ c. is_digit c 16) ds ≡ true
all_hexadecimal [] h = refl
all_hexadecimal (c ∷ cs) h = let rest : list_all (λ c. is_digit c 16) cs ≡ true = all_hexadecimal cs h.1 in let first : digit_value c < 16 = h.0 in grind (arith, nat_tests)

few_digits-by : (b : Bool) (n j k : ℕ) (acc : List ℕ) (x : ℕ) → eqb (n / 16) 0 ≡ b → n < 16 ^ suc j
    → ((i : ℕ) → n / 16 < 16 ^ suc i → length (digits_onto k 16 false (n / 16) (x ∷ acc)) ≤ suc i + suc (length acc))
    → length (cond b (x ∷ acc) (digits_onto k 16 false (n / 16) (x ∷ acc))) ≤ suc j + length acc
few_digits-by true n j k acc x e small rest = omega arith
few_digits-by false n zero k acc x e small rest = absurd (grind arith)
few_digits-by false n (suc j) k acc x e small rest = omega (arith, rest j (omega (arith, pow-suc 16 (suc j))))

-- a number below 16 ^ (j + 1) has at most j + 1 digits
few_digits : (k n j : ℕ) (acc : List ℕ) → n < 16 ^ suc j → length (digits_onto k 16 false n acc) ≤ suc j + length acc
few_digits zero n j acc small = omega arith
few_digits (suc k) n j acc small =
    few_digits-by (eqb (n / 16) 0) n j k acc (digit_glyph false (n % 16)) refl small (λ i h. few_digits k (n / 16) i (digit_glyph false (n % 16) ∷ acc) h)

at_most_sixteen : (n : ℕ) → n < 16 ^ 16 → length (digits 16 false n) ≤ 16
unfolding digits
at_most_sixteen n small = few_digits 64 n 15 [] small

-- a number that takes up 61 to 64 bits has 16 digits
sixteen : (n : ℕ) → 16 ^ 15 ≤ n → n < 16 ^ 16 → AllDigits 16 (digits 16 false n) → digits_value 16 (digits 16 false n) ≡ n → length (digits 16 false n) ≡ 16
sixteen n large small all value = at_least (length (digits 16 false n)) (at_most_sixteen n small) (subst (λ (v : ℕ). v < 16 ^ length (digits 16 false n)) value (digits_value-lt 16 (digits 16 false n) all))
  where
    at_least : (k : ℕ) → k ≤ 16 → n < 16 ^ k → k ≡ 16
    at_least k few above = ⊎_elim (λ less. absurd (omega (arith, pow-le-pow_right {n = 16} (omega arith) {i = k} {j = 15} (omega arith)))) (λ most. omega arith) (cases_lt k 16)

-- the bits of a not-a-number have 16 digits
nan_bits_large : (n : ℕ) → nan_bits binary64 n ≡ true → 16 ^ 15 ≤ n
nan_bits_large n marked =
    let above : 0x7ff0_0000_0000_0000 < n % 0x8000_0000_0000_0000 = ltb-true _ _ (sym (nan_bits_above binary64 n) ∙ marked) in
    let within = mod-le n 0x8000_0000_0000_0000 in
    omega arith

digits_spelled-by : (n : ℕ) (ds : List ℕ) → length ds ≡ 16 → list_all (λ c. is_digit c 16) ds ≡ true → digits_value 16 ds ≡ n → nan_bits binary64 n ≡ true → digits_bits ds ≡ Some n
digits_spelled-by n ds long all value marked =
    ap (λ (k : ℕ). if eqb k 16 && (list_all (λ c. is_digit c 16) ds && nan_bits binary64 (digits_value 16 ds)) then Some (digits_value 16 ds) else None) long
    ∙ ap (λ (b : Bool). if b && nan_bits binary64 (digits_value 16 ds) then Some (digits_value 16 ds) else None) all
    ∙ ap (λ (v : ℕ). if nan_bits binary64 v then Some v else None) value
    ∙ ap (λ (b : Bool). if b then Some n else None) marked

pub digits_spelled : (n : ℕ) → n < 2 ^ 64 → nan_bits binary64 n ≡ true → float_bits (codes "NaN:" ++ digits 16 false n) ≡ Some n
digits_spelled n small marked =
    let numeral = digits_is_IsNumeral 16 false (omega arith) (omega arith) n (omega arith) in
    named_by_digits (digits 16 false n)
    ∙ digits_spelled-by n (digits 16 false n) (sixteen n (nan_bits_large n marked) small numeral.0.1 numeral.1) (all_hexadecimal (digits 16 false n) numeral.0.1) numeral.1 marked

-- ---- what the parser reads the digits as

both : (a b : Bool) → (a && b) ≡ true → (a ≡ true) × (b ≡ true)
both true b h = (refl, h)
both false b h = absurd (false≢true h)

from_hexadecimal : (ds : List ℕ) → list_all (λ c. is_digit c 16) ds ≡ true → AllDigits 16 ds
from_hexadecimal [] h = tt
from_hexadecimal (c ∷ cs) h = let parts = both _ _ h in (ltb-true _ _ parts.0, from_hexadecimal cs parts.1)

no_plus : (c : ℕ) → digit_value c < 16 → eqb c 43 ≡ false
no_plus c h = grind (arith, nat_tests)

-- hexadecimal digits have no plus to leave out
kept_whole : (ds : List ℕ) → AllDigits 16 ds → without_leading_plus ds ≡ ds
kept_whole [] h = refl
kept_whole (c ∷ cs) h = ap (λ (b : Bool). drop (cond b 1 0) (c ∷ cs)) (no_plus c h.0)

digits_refused-by : (long all marked : Bool) (v : ℕ) → (long ≡ true → all ≡ true → ⊥) → (if long && (all && marked) then Some v else None) ≡ None
digits_refused-by true true marked v h = absurd (h refl refl)
digits_refused-by true false marked v h = refl
digits_refused-by false all marked v h = refl

pub digits_refused : {E : Type 0} (ds : List ℕ) (r : Result ℕ E) → ParsesUnsigned 64 16 ds r → result_ok r ≡ None → digits_bits ds ≡ None
digits_refused ds (Ok x) h none = cc
digits_refused ds (Err e) h none =
    digits_refused-by (eqb (length ds) 16) (list_all (λ c. is_digit c 16) ds) (nan_bits binary64 (digits_value 16 ds)) (digits_value 16 ds)
    (λ counted all.
    let digits = from_hexadecimal ds all in
    let long : length ds ≡ 16 = eqb-true _ _ counted in
    let small : digits_value 16 ds < 16 ^ 16 = subst (λ (k : ℕ). digits_value 16 ds < 16 ^ k) long (digits_value-lt 16 ds digits) in
    h (subst (λ (l : List ℕ). IsNumeral 16 l × (digits_value 16 l < 2 ^ 64)) (sym (kept_whole ds digits)) ((omega arith, digits), small)))

-- the parser leaves out a plus, and 15 digits are too few for a not-a-number
unsigned-by : (b : Bool) (ds : List ℕ) → length ds ≡ 16 → (drop (cond b 1 0) ds ≡ ds) ⊎ (length (drop (cond b 1 0) ds) ≡ 15)
unsigned-by true ds long = inr (omega (arith, length-drop 1 ds))
unsigned-by false [] long = inl refl
unsigned-by false (c ∷ cs) long = inl refl

pub digits_taken : {E : Type 0} (ds : List ℕ) (r : Result ℕ E) (bits : ℕ) → ParsesUnsigned 64 16 ds r → result_ok r ≡ Some bits → length ds ≡ 16 → nan_bits binary64 bits ≡ true → Some bits ≡ digits_bits ds
digits_taken ds (Err e) bits h some long marked = cc
digits_taken ds (Ok x) bits h some long marked =
    let same : digits_value 16 (without_leading_plus ds) ≡ bits = cc in
    ⊎_elim
    (λ (whole : without_leading_plus ds ≡ ds).
    sym (digits_spelled-by bits ds long (all_hexadecimal ds (subst (AllDigits 16) whole h.0.0.1)) (ap (digits_value 16) (sym whole) ∙ same) marked))
    (λ (short : length (without_leading_plus ds) ≡ 15).
    let small : digits_value 16 (without_leading_plus ds) < 16 ^ 15 = subst (λ (k : ℕ). digits_value 16 (without_leading_plus ds) < 16 ^ k) short (digits_value-lt 16 _ h.0.0.1) in
    absurd (omega (arith, nan_bits_large bits marked)))
    (unsigned-by (eqb (get_or ds 0 0) 43) ds long)

-- ---- graphic bytes

digit_graphic : (c : ℕ) → digit_value c < 16 → IsGraphic c
digit_graphic c h = grind (arith, nat_tests)

digits_graphic : (radix : ℕ) (ds : List ℕ) → radix ≤ 16 → AllDigits radix ds → All IsGraphic ds
digits_graphic radix [] low h = All-nil IsGraphic
digits_graphic radix (c ∷ cs) low h = let first : digit_value c < radix = h.0 in All-cons IsGraphic c cs (digit_graphic c (omega arith)) (digits_graphic radix cs low h.1)

sign_graphic : (negative : Bool) → All IsGraphic (sign_text negative)
sign_graphic true = All-cons IsGraphic 45 [] (omega arith, omega arith) (All-nil IsGraphic)
sign_graphic false = All-nil IsGraphic

fraction_graphic : (point : Bool) (ds : List ℕ) → AllDigits 10 ds → All IsGraphic (cond point (46 ∷ ds) [])
fraction_graphic true ds h = All-cons IsGraphic 46 ds (omega arith, omega arith) (digits_graphic 10 ds (omega arith) h)
fraction_graphic false ds h = All-nil IsGraphic

exponent_graphic : (negative : Bool) (ds : List ℕ) → AllDigits 10 ds → All IsGraphic (exponent_text negative ds)
exponent_graphic negative [] h = All-nil IsGraphic
exponent_graphic negative (d ∷ ds) h =
    All-cons IsGraphic 101 _ (omega arith, omega arith) (All-append IsGraphic (sign_text negative) (d ∷ ds) (sign_graphic negative) (digits_graphic 10 (d ∷ ds) (omega arith) h))

pub number_graphic : (text : List ℕ) → IsPlainNumber text → All IsGraphic text
number_graphic text h =
    let p = h.1 in
    let form = h.3.well_formed in
    All-same IsGraphic text _ h.2
    (All-append IsGraphic (sign_text h.0) _ (sign_graphic h.0)
    (All-append IsGraphic p.whole _ (digits_graphic 10 p.whole (omega arith) form.whole_digits)
    (All-append IsGraphic _ _ (fraction_graphic p.point p.fraction form.fraction_digits) (exponent_graphic p.exponent_negative p.exponent form.exponent_digits))))

pub infinity_graphic : All IsGraphic (codes "+Inf")
infinity_graphic = All-from_recursion IsGraphic (codes "+Inf") (search rules)

pub minus_infinity_graphic : All IsGraphic (codes "-Inf")
minus_infinity_graphic = All-from_recursion IsGraphic (codes "-Inf") (search rules)

pub normal_graphic : All IsGraphic (codes "NaN")
normal_graphic = All-from_recursion IsGraphic (codes "NaN") (search rules)

pub stale_graphic : All IsGraphic (codes "stale")
stale_graphic = All-from_recursion IsGraphic (codes "stale") (search rules)

pub name_graphic : (n : ℕ) → n < 2 ^ 64 → All IsGraphic (codes "NaN:" ++ digits 16 false n)
name_graphic n small =
    All-append IsGraphic (codes "NaN:") (digits 16 false n) (All-from_recursion IsGraphic (codes "NaN:") (search rules))
    (digits_graphic 16 (digits 16 false n) (omega arith) (digits_is_IsNumeral 16 false (omega arith) (omega arith) n (omega arith)).0.1)

-- ---- appending

nothing_spelled : float_bits [] ≡ None
unfolding fast_float_on_literals is_nan float_bits
nothing_spelled = refl

some_bytes : (word : List ℕ) (bits : ℕ) → float_bits word ≡ Some bits → 0 < length word
some_bytes [] bits spelled = let none : float_bits [] ≡ None = nothing_spelled in cc
some_bytes (c ∷ cs) bits spelled = omega arith

pub appended_word : {A E : Type 0} (r : Result A E) (bits : ℕ) (old new word : List ℕ)
    → new ≡ (if is_ok r then old ++ word else old) → float_bits word ≡ Some bits → All IsGraphic word
    → OnOk r (AppendsWord (λ w. float_bits w ≡ Some bits) old new)
appended_word (Ok x) bits old new word appended spelled graphic =
    record { word = word; appended = appended; spelled = spelled; some = some_bytes word bits spelled; graphic = graphic }
appended_word (Err e) bits old new word appended spelled graphic = tt

pub appended_output : {A E : Type 0} (r : Result A E) (bits : ℕ) (old new word : List ℕ) (output : Option (List ℕ))
    → output ≡ Some word → OnOk r (AppendsText old new output) → float_bits word ≡ Some bits → All IsGraphic word
    → OnOk r (AppendsWord (λ w. float_bits w ≡ Some bits) old new)
appended_output (Ok x) bits old new word output is h spelled graphic =
    record { word = word; appended = subst (AppendsText old new) is h; spelled = spelled; some = some_bytes word bits spelled; graphic = graphic }
appended_output (Err e) bits old new word output is h spelled graphic = tt

pub appended_weaker : {A E : Type 0} (r : Result A E) (P Q : List ℕ → Type 0) (old new : List ℕ)
    → ((word : List ℕ) → P word → Q word) → OnOk r (AppendsWord P old new) → OnOk r (AppendsWord Q old new)
appended_weaker (Ok x) P Q old new weaker h =
    record { word = h.word; appended = h.appended; spelled = weaker h.word h.spelled; some = h.some; graphic = h.graphic }
appended_weaker (Err e) P Q old new weaker h = tt

-- signed bits and back
pub read_signed : (word : List ℕ) (bits : ℤ) (n : ℕ) → SFits w64 bits → n ≡ of_z w64 (to_z w64 (of_z w64 bits)) → float_bits word ≡ Some n → Reads word bits
read_signed word bits n fits is spelled =
    ap (option_map (to_z w64)) spelled
    ∙ ap Some (ap (to_z w64) is ∙ (ap (λ (z : ℤ). to_z w64 (of_z w64 z)) (to_z-of_z w64 bits fits) ∙ to_z-of_z w64 bits fits))
