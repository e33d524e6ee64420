-- The chunk of a list of samples: Prometheus' XOR encoding (encoding 1 of its blocks), as its version 2.42 writes it, after Facebook's Gorilla.
-- Each definition names the function of the server's source that it restates: of tsdb/chunkenc/xor.go, if no file is named.
use Rattle.std.specs.Prelude.{◌≡◌, ℕ, ◌+◌, ◌-◌, ◌/◌, ◌%◌, ◌^◌, ◌≤◌, ◌==◌, ◌&&◌, ◌||◌, nat_lt, nat_le, min, ℤ, if◌then◌else◌, Bool, true, false, List, [], ◌∷◌, ◌++◌, length, Option, Some, None, bit_xor}
use Rattle.std.specs.Int.{w64, cast_unsigned, leading_zeros, trailing_zeros}
use Rattle.hw_bytes.specs.Writing.{big_bytes, uvarint, varint}
use Rattle.xor_chunk.specs.Bits.{bits_of, bits_in, bytes_of}
use Rattle.xor_chunk.specs.declared.sample.Sample.{Sample}
use Rattle.xor_chunk.specs.declared.before.BitWindow.{BitWindow}
use Rattle.xor_chunk.specs.declared.before.Before.{Before}

-- ---- 64 bits: sums and differences wrap, and a negative number is what it is above -2^64

-- `uint64(t)` of a time, and `math.Float64bits` of a value
abbrev pub pattern : ℤ → ℕ
pattern z = cast_unsigned w64 z

-- sums of `xorIterator.Next`
abbrev pub plus : ℕ → ℕ → ℕ
plus a b = (a + b) % 2 ^ 64

-- `tDelta` and `dod` of `xorAppender.Append`
abbrev pub minus : ℕ → ℕ → ℕ
minus a b = (a + (2 ^ 64 - b)) % 2 ^ 64

-- ---- times: the difference of the difference from the time before

-- the 64 bits are a signed number from -(2^k - 1) to 2^k: `bitRange` of k + 1
unfoldable pub is_near : ℕ → ℕ → Bool
is_near k d = nat_le d (2 ^ k) || nat_lt (2 ^ 64 - 2 ^ k) d

-- 0, or the lowest 14, 17 or 20 bits if these are enough, or all 64: the cases of `dod` in `xorAppender.Append`
unfoldable pub step_bits : ℕ → List Bool
step_bits d = if d == 0 then false ∷ [] else if is_near 13 d then true ∷ false ∷ bits_of 14 (d % 2 ^ 14) else if is_near 16 d then true ∷ true ∷ false ∷ bits_of 17 (d % 2 ^ 17) else if is_near 19 d then true ∷ true ∷ true ∷ false ∷ bits_of 20 (d % 2 ^ 20) else true ∷ true ∷ true ∷ true ∷ bits_of 64 d

-- ---- values: the exclusive or with the value before

-- how many bits are 0 above the highest 1, at most 31, and below the lowest: `newLeading` and `newTrailing` of `xorWrite`
unfoldable pub opened : ℕ → BitWindow
opened x = record { leading = min (leading_zeros w64 x) 31; trailing = trailing_zeros w64 x }

-- `sigbits` of `xorWrite`
abbrev pub width : BitWindow → ℕ
width w = 64 - w.leading - w.trailing

-- the bits in the window: what `xorWrite` writes last
unfoldable pub within : BitWindow → ℕ → List Bool
within w x = bits_of (width w) (x / 2 ^ w.trailing)

-- a new window: five bits of its leading zeros, and six of its width, 0 for 64 (`xorWrite`, of whose last case this is the front)
unfoldable pub opening : BitWindow → List Bool
opening w = true ∷ true ∷ (bits_of 5 w.leading ++ bits_of 6 (width w % 64))

-- the last window, if there is one that leaves out no bit of the new one: the test of `xorWrite` before it sticks with `leading` and `trailing`
unfoldable pub reused : Option BitWindow → BitWindow → Option BitWindow
reused None f = None
reused (Some w) f = if nat_le w.leading f.leading && nat_le w.trailing f.trailing then Some w else None

-- the window in which bits are written: the last one, or a new one (`xorWrite`)
abbrev pub used : Option BitWindow → BitWindow → BitWindow
used None f = f
used (Some w) f = w

-- `xorWrite` of values that differ
unfoldable pub changed_bits : Option BitWindow → ℕ → List Bool
changed_bits None x = opening (opened x) ++ within (opened x) x
changed_bits (Some w) x = true ∷ false ∷ within w x

-- 0 if the value is the same; else its bits in the last window, or a new window and its bits in that: `xorWrite`, which `writeVDelta` calls
unfoldable pub value_bits : Option BitWindow → ℕ → List Bool
value_bits o x = if x == 0 then false ∷ [] else changed_bits (reused o (opened x)) x

-- `leading` and `trailing` of the appender, after `xorWrite`
unfoldable pub window_after : Option BitWindow → ℕ → Option BitWindow
window_after o x = if x == 0 then o else Some (used (reused o (opened x)) (opened x))

-- the last number that is written of a value has whole bytes, so that `writeBits` of bstream.go ends with `writeByte`; the one bit that says that
-- the value is the same has not: that is `writeBit`
unfoldable pub is_whole : Option BitWindow → ℕ → Bool
is_whole o x = if x == 0 then false else width (used (reused o (opened x)) (opened x)) % 8 == 0

-- ---- samples

-- a third or later sample: the last case of `xorAppender.Append`
abbrev pub sample_bits : Before → Sample → List Bool
sample_bits b s = step_bits (minus (minus (pattern s.time) b.time) b.delta) ++ value_bits b.window (bit_xor b.value (pattern s.value))

-- `t`, `v`, `tDelta` and the window that `xorAppender.Append` leaves
abbrev pub after : Before → Sample → Before
after b s = record { time = pattern s.time; value = pattern s.value; delta = minus (pattern s.time) b.time; window = window_after b.window (bit_xor b.value (pattern s.value)) }

-- `xorAppender.Append` of each
unfoldable pub samples_bits : Before → List Sample → List Bool
samples_bits b [] = []
samples_bits b (s ∷ more) = sample_bits b s ++ samples_bits (after b s) more

-- the last number of all has whole bytes, where that of the sample before them has or has not: the last call of bstream.go was `writeByte`
unfoldable pub ends_whole : Bool → Before → List Sample → Bool
ends_whole whole b [] = whole
ends_whole whole b (s ∷ more) = ends_whole (is_whole b.window (bit_xor b.value (pattern s.value))) (after b s) more

-- the second sample, as the one before the third: what the second case of `xorAppender.Append` leaves
abbrev pub second : Sample → Sample → Before
second a b = record { time = pattern b.time; value = pattern b.value; delta = minus (pattern b.time) (pattern a.time); window = window_after None (bit_xor (pattern a.value) (pattern b.value)) }

-- the second value, and the samples after it: `xorAppender.Append` from `writeVDelta` of the second sample on
abbrev pub tail_bits : Sample → Sample → List Sample → List Bool
tail_bits a b more = value_bits None (bit_xor (pattern a.value) (pattern b.value)) ++ samples_bits (second a b) more

-- ---- chunks

-- Whole bytes: the number of samples, which `NewXORChunk` makes room for and `xorAppender.Append` counts up, the first time and the first value
-- (its first case), and the difference of the second time from the first (its second case).
unfoldable pub count_bytes : ℕ → List ℕ
count_bytes n = big_bytes 2 n

unfoldable pub first_bytes : Sample → List ℕ
first_bytes a = varint a.time ++ big_bytes 8 (pattern a.value)

unfoldable pub delta_bytes : Sample → Sample → List ℕ
delta_bytes a b = uvarint (minus (pattern b.time) (pattern a.time))

-- what the first two cases of `xorAppender.Append` write by `writeByte`
abbrev pub head_bytes : List Sample → List ℕ
head_bytes [] = []
head_bytes (a ∷ []) = first_bytes a
head_bytes (a ∷ b ∷ more) = first_bytes a ++ delta_bytes a b

-- what `xorAppender.Append` writes after that
abbrev pub behind_head : List Sample → List Bool
behind_head [] = []
behind_head (a ∷ []) = []
behind_head (a ∷ b ∷ more) = tail_bits a b more

-- the last number of a chunk has whole bytes, as the value of a first sample has
abbrev pub is_whole_chunk : List Sample → Bool
is_whole_chunk [] = false
is_whole_chunk (a ∷ []) = true
is_whole_chunk (a ∷ b ∷ more) = ends_whole (is_whole None (bit_xor (pattern a.value) (pattern b.value))) (second a b) more

-- all that is written
unfoldable pub chunk_bits : List Sample → List Bool
chunk_bits samples = bits_in (count_bytes (length samples) ++ head_bytes samples) ++ behind_head samples

-- The chunk of samples: what `XORChunk.Bytes` gives after `xorAppender.Append` of each. Their bits as bytes; but `writeByte` of bstream.go begins a
-- byte as soon as the one before is full, and `writeBit` does not: so one bit more is left after a last number of whole bytes.
unfoldable pub xor_text : List Sample → List ℕ
xor_text samples = bytes_of (chunk_bits samples ++ (if is_whole_chunk samples then false ∷ [] else []))

-- the bytes are the chunk of these samples
pub record IsXorChunk (text : List ℕ) (samples : List Sample) : Type 0 where
  pub few : length samples ≤ 65535
  pub is : text ≡ xor_text samples
