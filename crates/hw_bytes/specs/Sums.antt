-- Checksums that follow texts.
use Rattle.std.specs.Prelude.{ℕ, ◌==◌, List, take, drop, length, nat_lt, if◌then◌else◌, Bool, false, Option, None, Some}
use Rattle.hw_bytes.specs.Writing.{big_bytes, big_number}
use Rattle.hw_bytes.specs.Checksum.{crc32c}

-- a list of bytes
abbrev pub Text : Type 0
Text = List ℕ

-- the big-endian number of the first n bytes, or `None` if there are fewer
abbrev pub number_at : ℕ → List ℕ → Option ℕ
number_at n bytes = if nat_lt (length bytes) n then None else Some (big_number n bytes)

-- the checksum of a text: its CRC-32C in four bytes, big-endian
unfoldable pub sum_text : Text → Text
sum_text bytes = big_bytes 4 (crc32c bytes)

-- whether there is a number and it is k
abbrev pub is_number : Option ℕ → ℕ → Bool
is_number None k = false
is_number (Some n) k = n == k

-- whether the first n bytes are followed by their checksum
abbrev pub sums : ℕ → List ℕ → Bool
sums n bytes = is_number (number_at 4 (drop n bytes)) (crc32c (take n bytes))
