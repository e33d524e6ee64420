-- The value at the front of some bytes, with its length, by functions. Only private functions and proofs cite this file:
-- public contracts speak of the spellings (`IsAt`, `IsNowhere`).
use Rattle.std.specs.Prelude.{ℕ, zero, suc, ◌+◌, ◌/◌, ◌%◌, ◌==◌, ◌^◌, nat_lt, if◌then◌else◌, ℤ, pos, negsuc, List, [], ◌∷◌, length, take, drop, Option, Some, None}
use Rattle.std.specs.Option.{option_map}
use Rattle.hw_bytes.specs.Numbers.{groups}

infixl 10 ◌>>=◌
abbrev pub ◌>>=◌ : {A B : Type 0} → Option A → (A → Option B) → Option B
None >>= f = None
(Some x) >>= f = f x

-- the number of bytes up to and including the first below 128, if it is one of the first k
unfoldable pub end_at : ℕ → List ℕ → Option ℕ
end_at zero bytes = None
end_at (suc k) [] = None
end_at (suc k) (b ∷ more) = if nat_lt b 128 then Some 1 else option_map (λ n. n + 1) (end_at k more)

unfoldable pub uvarint_at : List ℕ → Option (ℕ × ℕ)
uvarint_at bytes = do
  len ← end_at 10 bytes
  if nat_lt (groups (take len bytes)) (2 ^ 64) then Some (groups (take len bytes), len) else None

abbrev pub from_zigzag : ℕ → ℤ
from_zigzag n = if n % 2 == 0 then pos (n / 2) else negsuc (n / 2)

abbrev pub varint_at : List ℕ → Option (ℤ × ℕ)
varint_at bytes = option_map (λ x. (from_zigzag x.0, x.1)) (uvarint_at bytes)

unfoldable pub text_at : List ℕ → Option (List ℕ × ℕ)
text_at bytes = do
  len ← uvarint_at bytes
  if nat_lt (length (drop len.1 bytes)) len.0 then None else Some (take len.0 (drop len.1 bytes), len.1 + len.0)
