-- How numbers and texts are written: in their shortest spelling. A number of fixed width has one, `big_bytes width n`.
use Rattle.std.specs.Prelude.{◌≡◌, ℕ, zero, suc, ◌+◌, ◌/◌, ◌%◌, ◌≤◌, nat_lt, if◌then◌else◌, ℤ, List, [], ◌∷◌, ◌++◌, length}
pub use Rattle.byteorder.specs.Endian.{big_bytes, big_number}
use Rattle.hw_bytes.specs.Spellings.{IsBytes}
use Rattle.hw_bytes.specs.Numbers.{zigzag}

-- the groups of seven bits of n, the lowest first: up to k of them with bit 7 set, and the last one without it
unfoldable pub uvarint_in : ℕ → ℕ → List ℕ
uvarint_in zero n = n ∷ []
uvarint_in (suc k) n = if nat_lt n 128 then n ∷ [] else (n % 128 + 128) ∷ uvarint_in k (n / 128)

-- a number of 64 bits has at most ten groups
unfoldable pub uvarint : ℕ → List ℕ
uvarint n = uvarint_in 9 n

abbrev pub varint : ℤ → List ℕ
varint z = uvarint (zigzag z)

abbrev pub text : List ℕ → List ℕ
text bytes = uvarint (length bytes) ++ bytes

-- the bytes spell x, every spelling of x is at least as long, and no other is as short
pub record IsShortest {X : Type 0} (P : List ℕ → X → Type 0) (bytes : List ℕ) (x : X) : Type 0 where
  pub small : IsBytes bytes
  pub spelled : P bytes x
  pub least : (others : List ℕ) → P others x → length bytes ≤ length others
  pub only : (others : List ℕ) → IsBytes others → P others x → length others ≤ length bytes → others ≡ bytes
