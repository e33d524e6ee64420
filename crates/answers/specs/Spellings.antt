-- How the bytes of a label's name or value are spelled as text.
use Rattle.std.specs.Prelude.{◌≡◌, ℕ, ◌+◌, ◌/◌, ◌%◌, ◌&&◌, ◌==◌, nat_le, nat_lt, not, if◌then◌else◌, Bool, Option, List, [], ◌∷◌, ◌++◌}
use Rattle.std.specs.List.{flat_map}
use Rattle.std.specs.Option.{option_map}

-- whether the byte is spelled as itself: 0x21 to 0x7e without `\` and `=`
abbrev pub is_bare : ℕ → Bool
is_bare byte = nat_le 33 byte && nat_le byte 126 && not (byte == 92) && not (byte == 61)

-- the lower-case hexadecimal digit
abbrev pub digit_of : ℕ → ℕ
digit_of n = if nat_lt n 10 then 48 + n else 87 + n

-- a byte as itself, or as `\x` and two lower-case hexadecimal digits
abbrev pub byte_spelling : ℕ → List ℕ
byte_spelling byte = if is_bare byte then byte ∷ [] else 92 ∷ 120 ∷ digit_of (byte / 16) ∷ digit_of (byte % 16) ∷ []

-- bytes, one after another
abbrev pub spelled : List ℕ → List ℕ
spelled bytes = flat_map byte_spelling bytes

-- a label: `NAME=VALUE`
abbrev pub pair_text : List ℕ → List ℕ → List ℕ
pair_text name value = spelled name ++ 61 ∷ spelled value

-- the word, if there is one, spells the label of this name and this value, and else there is no label
pub record SpellsPair (word : Option (List ℕ)) (pair : Option (List ℕ × List ℕ)) : Type 0 where
  pub is : word ≡ option_map (λ p. pair_text p.0 p.1) pair
