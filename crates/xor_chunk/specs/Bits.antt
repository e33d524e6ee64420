-- Bits of numbers and of bytes, the highest first: the order of tsdb/chunkenc/bstream.go of Prometheus 2.42, which its functions named here keep.
use Rattle.std.specs.Prelude.{ℕ, zero, suc, ◌+◌, ◌-◌, ◌/◌, ◌%◌, ◌^◌, ◌==◌, if◌then◌else◌, Bool, false, List, [], ◌∷◌, ◌++◌, length, map, replicate}
use Rattle.xor_chunk.specs.Parts.{parts}

-- the lowest k bits of n, the highest of them first: what `writeBits(n, k)` appends
unfoldable pub bits_of : ℕ → ℕ → List Bool
bits_of zero n = []
bits_of (suc k) n = (n / 2 ^ k % 2 == 1) ∷ bits_of k n

-- the bits of bytes: what `writeByte` of each appends
unfoldable pub bits_in : List ℕ → List Bool
bits_in [] = []
bits_in (b ∷ more) = bits_of 8 b ++ bits_in more

-- the number with these bits, the highest first: what `readBits` makes of them
unfoldable pub number_of : List Bool → ℕ
number_of [] = 0
number_of (b ∷ more) = (if b then 2 ^ length more else 0) + number_of more

-- at most eight bits as a byte, with zeros after them: what `writeBit` of each makes of an empty byte
abbrev pub byte_of : List Bool → ℕ
byte_of bits = number_of (bits ++ replicate (8 - length bits) false)

-- bits as bytes: eight to a byte, and zeros to the end of the last one
unfoldable pub bytes_of : List Bool → List ℕ
bytes_of bits = map byte_of (parts 8 bits)
