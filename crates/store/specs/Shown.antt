-- A path, as a fault prints it.
use Rattle.std.specs.Prelude.{ℕ, ◌+◌, ◌/◌, ◌%◌, nat_lt, if◌then◌else◌, List, [], ◌∷◌}
use Rattle.std.specs.Char.{is_ascii_control}
use Rattle.std.specs.List.{flat_map}

-- the lower-case hexadecimal digit
abbrev pub digit_of : ℕ → ℕ
digit_of n = if nat_lt n 10 then 48 + n else 87 + n

-- a byte as itself, but a control character of ASCII as `\x` and two lower-case hexadecimal digits
abbrev pub shown_byte : ℕ → List ℕ
shown_byte byte = if is_ascii_control byte then 92 ∷ 120 ∷ digit_of (byte / 16) ∷ digit_of (byte % 16) ∷ [] else byte ∷ []

-- the bytes of a path, one after another
abbrev pub shown : List ℕ → List ℕ
shown path = flat_map shown_byte path
