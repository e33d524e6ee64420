-- Names of files that are numbered.
use Rattle.std.specs.Prelude.{ℕ, zero, suc, ◌≡◌, ◌+◌, ◌-◌, ◌^◌, ◌<◌, ◌≤◌, ◌/◌, ◌%◌, ◌&&◌, ◌==◌, nat_lt, if◌then◌else◌, Bool, true, false, not, T, List, [], ◌∷◌, ◌++◌, length, replicate, refl}
use Rattle.std.specs.Fmt.{decimal, digit_glyph, digits, digits_onto, format_spec, styled_decimal}
use Rattle.std.specs.Path.{HasNoSlash, has_no_slash, slash}
use Rattle.std.proofs.Common.{sym, arith}
use Rattle.std.proofs.lemmas.List.{length-append}
use Rattle.std.proofs.lemmas.Bool.{lt-ltb, ne_eqb, true≢false}
use Rattle.std.proofs.Padding.{padded_integral_zeros}
use Rattle.new_files.specs.Targets.{IsName, zero_filled}

pub eight : (n : ℕ) → styled_decimal (format_spec 32 0 4 8 (2 ^ 64 - 1)) n ≡ zero_filled 8 n
eight n = padded_integral_zeros (format_spec 32 0 4 8 (2 ^ 64 - 1)) (decimal n) refl refl

pub six : (n : ℕ) → styled_decimal (format_spec 32 0 4 6 (2 ^ 64 - 1)) n ≡ zero_filled 6 n
six n = padded_integral_zeros (format_spec 32 0 4 6 (2 ^ 64 - 1)) (decimal n) refl refl

-- ---- such a name is a name

pub both : (a b : Bool) → T a → T b → T (a && b)
both true b p q = q
both false b p q = absurd p

both_of : (a b c : Bool) → T (a && b) → (T b → T c) → T (a && c)
both_of true b c has more = more has
both_of false b c has more = absurd has

differs : (c : ℕ) → 48 ≤ c → T (not (c == slash))
differs c low = is_false (c == slash) (ne_eqb c slash (λ is. omega (arith, low, is))) where
  is_false : (b : Bool) → b ≡ false → T (not b)
  is_false false is = tt
  is_false true is = absurd (true≢false is)

digit_differs : (n : ℕ) → T (not (digit_glyph false (n % 10) == slash))
digit_differs n = differs (digit_glyph false (n % 10)) (by_digit (nat_lt (n % 10) 10) (lt-ltb (n % 10) 10 (omega arith))) where
  by_digit : (b : Bool) → b ≡ true → 48 ≤ (if b then 48 + n % 10 else (if false then 55 + n % 10 else 87 + n % 10))
  by_digit true is = omega arith
  by_digit false is = absurd (true≢false (sym is))

either_of : (P : List ℕ → Type 0) (b : Bool) (x y : List ℕ) → P x → P y → P (if b then x else y)
either_of P true x y p q = p
either_of P false x y p q = q

no_slash_onto : (k n : ℕ) (after : List ℕ) → HasNoSlash after → HasNoSlash (digits_onto k 10 false n after)
no_slash_onto zero n after has = has
no_slash_onto (suc k) n after has =
    let more = both (not (digit_glyph false (n % 10) == slash)) (has_no_slash after) (digit_differs n) has in
    either_of HasNoSlash (n / 10 == 0) (digit_glyph false (n % 10) ∷ after) (digits_onto k 10 false (n / 10) (digit_glyph false (n % 10) ∷ after)) more (no_slash_onto k (n / 10) (digit_glyph false (n % 10) ∷ after) more)

abbrev IsSome : List ℕ → Type 0
IsSome text = 0 < length text

some_onto : (k n : ℕ) (after : List ℕ) → IsSome after → IsSome (digits_onto k 10 false n after)
some_onto zero n after some = some
some_onto (suc k) n after some =
    either_of IsSome (n / 10 == 0) (digit_glyph false (n % 10) ∷ after) (digits_onto k 10 false (n / 10) (digit_glyph false (n % 10) ∷ after)) (omega arith) (some_onto k (n / 10) (digit_glyph false (n % 10) ∷ after) (omega arith))

no_slash_zeros : (n : ℕ) (text : List ℕ) → HasNoSlash text → HasNoSlash (replicate n 48 ++ text)
no_slash_zeros zero text has = has
no_slash_zeros (suc n) text has = no_slash_zeros n text has

pub no_slash_append : (a b : List ℕ) → HasNoSlash a → HasNoSlash b → HasNoSlash (a ++ b)
no_slash_append [] b none has = has
no_slash_append (c ∷ a) b more has = both_of (not (c == slash)) (has_no_slash a) (has_no_slash (a ++ b)) more (λ m. no_slash_append a b m has)

pub filled_is_name : (width n : ℕ) → IsName (zero_filled width n)
unfolding digits
filled_is_name width n = record {
  some = omega (
    arith,
    length-append (replicate (width - length (decimal n)) 48) (decimal n),
    either_of IsSome (n / 10 == 0) (digit_glyph false (n % 10) ∷ []) (digits_onto 63 10 false (n / 10) (digit_glyph false (n % 10) ∷ [])) (omega arith) (some_onto 63 (n / 10) (digit_glyph false (n % 10) ∷ []) (omega arith)),
  );
  no_slash = no_slash_zeros (width - length (decimal n)) (decimal n) (no_slash_onto 64 n [] tt);
}

-- a text before a name
pub name_behind : (text name : List ℕ) → HasNoSlash text → IsName name → IsName (text ++ name)
name_behind text name has is = record { some = omega (arith, length-append text name, is.some); no_slash = no_slash_append text name has is.no_slash }
