-- How numbers and texts are spelled as bytes.
use Rattle.std.specs.Prelude.{◌≡◌, ℕ, ◌+◌, ◌*◌, ◌%◌, ◌^◌, ◌<◌, ◌≤◌, ℤ, pos, negsuc, List, [], ◌∷◌, ◌++◌, length}
use Rattle.byteorder.specs.Endian.{big_bytes}

-- n in `width` bytes, big-endian
abbrev pub IsFixed : ℕ → List ℕ → ℕ → Type 0
IsFixed width bytes n = (bytes ≡ big_bytes width n) × (n < 256 ^ width)

-- bit 7 is set on every byte but the last
abbrev pub IsContinued : List ℕ → Type 0
IsContinued [] = ⊥
IsContinued (b ∷ []) = b < 128
IsContinued (b ∷ c ∷ more) = (128 ≤ b) × IsContinued (c ∷ more)

-- the number whose groups of seven bits are the low bits of each byte, the lowest group first
abbrev pub groups : List ℕ → ℕ
groups [] = 0
groups (b ∷ more) = b % 128 + 128 * groups more

-- uvarint: a number below 2^64 in at most ten bytes (so the tenth is at most 1). A number has several: 1 is [1], [129, 0], ..
pub record IsUvarint (bytes : List ℕ) (n : ℕ) : Type 0 where
  pub continued : IsContinued bytes
  pub short : length bytes ≤ 10
  pub value : n ≡ groups bytes
  pub fits : n < 2 ^ 64

-- the zigzag number of z: 2z, or -2z - 1 below zero (`negsuc n` is -n - 1)
abbrev pub zigzag : ℤ → ℕ
zigzag (pos n) = 2 * n
zigzag (negsuc n) = 2 * n + 1

-- varint: the uvarint of the zigzag number
abbrev pub IsVarint : List ℕ → ℤ → Type 0
IsVarint bytes z = IsUvarint bytes (zigzag z)

-- text: its length as a uvarint, then its bytes
abbrev pub IsText : List ℕ → List ℕ → Type 0
IsText bytes text = (front : List ℕ) × IsUvarint front (length text) × (bytes ≡ front ++ text)
