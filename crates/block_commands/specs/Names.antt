-- The names that are made for blocks.
use Rattle.std.specs.Prelude.{ℕ, ◌+◌, ◌-◌, ◌*◌, ◌/◌, ◌%◌, ◌^◌, get_or, map, codes}
use Rattle.std.specs.List.{range_with_len}
use Rattle.hw_bytes.specs.Sums.{Text}

-- the digits of Crockford's base 32
abbrev pub alphabet : Text
alphabet = codes "0123456789ABCDEFGHJKMNPQRSTVWXYZ"

-- the digit at a place of 26, the highest first
abbrev pub digit_at : ℕ → ℕ → ℕ
digit_at n place = get_or alphabet (n / 2 ^ (5 * (25 - place)) % 32) 0

-- The ULID of a time in milliseconds since 1970, of which 48 bits count, and of a random number, of which 80 bits count.
unfoldable pub made_name : ℕ → ℕ → Text
made_name millis random = map (digit_at (millis % 2 ^ 48 * 2 ^ 80 + random % 2 ^ 80)) (range_with_len 0 26)
