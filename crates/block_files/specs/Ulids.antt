-- The names of blocks.
use Rattle.std.specs.Prelude.{◌≡◌, ℕ, ◌≤◌, Bool, ◌&&◌, ◌||◌, not, nat_le, ◌==◌, [], ◌∷◌, length, All, IsTrue}
use Rattle.hw_bytes.specs.Sums.{Text}

-- a digit of Crockford's base 32: 0 to 9 and A to Z without I, L, O and U
abbrev pub is_digit : ℕ → Bool
is_digit c = (nat_le 0x30 c && nat_le c 0x39) || (nat_le 0x41 c && nat_le c 0x5A && not (c == 0x49 || c == 0x4C || c == 0x4F || c == 0x55))

-- the first byte is at most `7`, so that 26 digits of five bits fit in 128 bits
abbrev pub BeginsLow : Text → Type 0
BeginsLow [] = Unit {0}
BeginsLow (c ∷ more) = c ≤ 0x37

-- The text of a ULID: 26 digits, the first at most `7`.
pub record IsUlid (text : Text) : Type 0 where
  pub long : length text ≡ 26
  pub digits : All (λ c. IsTrue (is_digit c)) text
  pub low : BeginsLow text
