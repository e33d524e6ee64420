-- The text of a 64 bit floating point number, which is kept as its bits.
use Rattle.std.specs.Prelude.{◌≡◌, ℕ, ℤ, ◌<◌, ◌==◌, ◌&&◌, List, ◌++◌, length, take, drop, Option, None, Some, if◌then◌else◌, is_nan, to_bits}
use Rattle.std.specs.Option.{option_and_then, option_map, option_or}
use Rattle.std.specs.List.{All, list_all}
use Rattle.std.specs.Char.{is_digit}
use Rattle.std.specs.Int.{cast_signed, w64}
use Rattle.std.specs.Str.{bytes_eq, str_to_ascii_lowercase}
use Rattle.std.specs.Str.Parse.{digits_value}
use Rattle.std.specs.Float.Ieee.{binary64, nan_bits}
use Rattle.fast_float.specs.Parse.{parse_float}
use lib.Chars.{codes}

-- the bits that a server stores for a value that is not a number
abbrev pub normal_nan : ℕ
normal_nan = 0x7ff8_0000_0000_0001

-- the bits of the staleness marker, which are those of a not-a-number
abbrev pub stale_nan : ℕ
stale_nan = 0x7ff0_0000_0000_0002

-- the bits of the number that a text spells: the one nearest to a decimal number, or an infinity
abbrev pub number_bits : List ℕ → Option ℕ
number_bits text = option_and_then (λ x. if is_nan x then None else Some (to_bits binary64 x)) (parse_float binary64 text)

-- the bits of a not-a-number from its 16 hexadecimal digits
abbrev pub digits_bits : List ℕ → Option ℕ
digits_bits digits =
    if length digits == 16 && (list_all (λ c. is_digit c 16) digits && nan_bits binary64 (digits_value 16 digits))
    then Some (digits_value 16 digits) else None

-- the bits of the not-a-number that a text names: `NaN` in either case, `stale`, or `NaN:` and the digits
abbrev pub name_bits : List ℕ → Option ℕ
name_bits text =
    if bytes_eq (str_to_ascii_lowercase text) (codes "nan") then Some normal_nan
    else (if bytes_eq text (codes "stale") then Some stale_nan
    else (if bytes_eq (take 4 text) (codes "NaN:") then digits_bits (drop 4 text) else None))

-- the bits of the floating point number that a text spells
unfoldable pub float_bits : List ℕ → Option ℕ
float_bits text = option_or (number_bits text) (name_bits text)

-- a text spells the floating point number with these bits
abbrev pub Reads : List ℕ → ℤ → Type 0
Reads text bits = option_map (cast_signed w64) (float_bits text) ≡ Some bits

-- the byte is a printable ASCII character, and no space
abbrev pub IsGraphic : ℕ → Type 0
IsGraphic c = (32 < c) × (c < 127)

-- the new text is the old one with a word after it, of which `Spells` is true
pub record AppendsWord (Spells : List ℕ → Type 0) (old new : List ℕ) : Type 0 where
  pub word : List ℕ
  pub appended : new ≡ old ++ word
  pub spelled : Spells word
  pub some : 0 < length word
  pub graphic : All IsGraphic word
