-- What a hasher with a seed computes.
use Rattle.std.specs.Prelude.{ℕ, zero, suc, ◌+◌, ◌-◌, ◌*◌, ◌/◌, ◌%◌, ◌^◌, List, length, drop, if◌then◌else◌, nat_lt, slice_index, bit_or, bit_xor}
use Rattle.byteorder.specs.Endian.{little_number}
use Rattle.hash_seed.specs.declared.hasher.SeededHasher.{SeededHasher}
use Rattle.hash_seed.specs.declared.seed.HashSeed.{HashSeed}

-- the two halves of the 128 bits of a product, joined by exclusive or
unfoldable pub folded : ℕ → ℕ → ℕ
folded a b = bit_xor ((a * b) % 2 ^ 64) (a * b / 2 ^ 64)

-- the number in the eight bytes from a place on
abbrev pub word_at : List ℕ → ℕ → ℕ
word_at bs i = little_number 8 (drop i bs)

-- the number in the four bytes from a place on
abbrev pub half_at : List ℕ → ℕ → ℕ
half_at bs i = little_number 4 (drop i bs)

-- the state after the two words at these places
abbrev pub mixed : ℕ → List ℕ → ℕ → ℕ → ℕ → ℕ
mixed factor bs state i j = folded (bit_xor state (word_at bs i)) (bit_xor factor (word_at bs j))

-- the state after the first n blocks of sixteen bytes
unfoldable pub after_blocks : ℕ → List ℕ → ℕ → ℕ → ℕ
after_blocks factor bs state zero = state
after_blocks factor bs state (suc n) = mixed factor bs (after_blocks factor bs state n) (16 * n) (16 * n + 8)

-- a number moved up by so many bits, of 64
abbrev pub up : ℕ → ℕ → ℕ
up x by = (x * 2 ^ by) % 2 ^ 64

-- up to eight bytes as one number, which is another for other bytes of the same length
unfoldable pub short_number : List ℕ → ℕ
short_number bs =
    let n = length bs in
    if nat_lt n 1 then 0
    else (if nat_lt n 4 then bit_or (bit_or (slice_index bs 0) (up (slice_index bs (n / 2)) 8)) (up (slice_index bs (n - 1)) 16)
    else bit_or (half_at bs 0) (up (half_at bs (n - 4)) 32))

-- the hasher after these bytes were written to it
unfoldable pub after_bytes : SeededHasher → List ℕ → SeededHasher
after_bytes h bs =
    let n = length bs in
    let one = folded (bit_xor h.state (short_number bs)) ((h.factor + n) % 2 ^ 64) in
    let more = mixed h.factor bs (after_blocks h.factor bs ((h.state + n) % 2 ^ 64) ((n - 1) / 16)) (n - 16) (n - 8) in
    record { state = if nat_lt n 9 then one else more; factor = h.factor }

-- the hash that a hasher has come to
abbrev pub hash_of : SeededHasher → ℕ
hash_of h = h.state

-- the hasher that a seed makes
unfoldable pub hasher_of : HashSeed → SeededHasher
hasher_of seed = record { state = seed.start; factor = seed.factor }
