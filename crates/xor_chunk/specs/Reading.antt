-- What bytes are read as: the samples of a chunk, or the first fault from the front. The samples are those of `xorIterator` of tsdb/chunkenc/xor.go of
-- Prometheus 2.42, whose functions are named here. Where bits are missing there is a fault here, even where the server reads zeros.
use Rattle.std.specs.Prelude.{ℕ, zero, suc, ◌+◌, ◌-◌, ◌*◌, ◌/◌, ◌%◌, ◌^◌, ◌==◌, nat_lt, ℤ, if◌then◌else◌, Bool, true, false, List, [], ◌∷◌, ◌++◌, length, drop, Option, Some, None, Result, Ok, Err, bit_xor}
use Rattle.std.specs.Int.{w64, cast_signed}
use Rattle.std.specs.Option.{option_map}
use Rattle.hw_bytes.specs.Writing.{big_number}
use Rattle.hw_bytes.specs.Reading.{uvarint_at, varint_at}
use Rattle.xor_chunk.specs.Bits.{bits_in}
use Rattle.xor_chunk.specs.Chunks.{plus, pattern, width}
use Rattle.xor_chunk.specs.declared.sample.Sample.{Sample}
use Rattle.xor_chunk.specs.declared.before.BitWindow.{BitWindow}
use Rattle.xor_chunk.specs.declared.before.Before.{Before}
use Rattle.xor_chunk.specs.declared.fault.XorFault.{XorFault}
use Rattle.xor_chunk.specs.declared.fault.XorFault.TheVariants.{TooShort, BadNumber, BadWindow}

-- the number in the first k bits, and the bits after it: `readBits(k)` of bstream.go
unfoldable pub number_at : ℕ → List Bool → Option (ℕ × List Bool)
number_at zero bits = Some (0, bits)
number_at (suc k) [] = None
number_at (suc k) (b ∷ bits) = option_map (λ x. ((if b then 2 ^ k else 0) + x.0, x.1)) (number_at k bits)

-- ---- times

-- the 64 bits of a number from -(2^k - 1) to 2^k, of which these are the lowest k + 1: `xorIterator.Next` of `sz` k + 1
abbrev pub widened : ℕ → ℕ → ℕ
widened k low = if nat_lt (2 ^ k) low then low + (2 ^ 64 - 2 ^ (k + 1)) else low

abbrev pub near_at : ℕ → List Bool → Option (ℕ × List Bool)
near_at k bits = option_map (λ x. (widened k x.0, x.1)) (number_at (k + 1) bits)

-- the difference of two differences of times: `dod` of `xorIterator.Next`
unfoldable pub step_at : List Bool → Option (ℕ × List Bool)
step_at [] = None
step_at (false ∷ bits) = Some (0, bits)
step_at (true ∷ []) = None
step_at (true ∷ false ∷ bits) = near_at 13 bits
step_at (true ∷ true ∷ []) = None
step_at (true ∷ true ∷ false ∷ bits) = near_at 16 bits
step_at (true ∷ true ∷ true ∷ []) = None
step_at (true ∷ true ∷ true ∷ false ∷ bits) = near_at 19 bits
step_at (true ∷ true ∷ true ∷ true ∷ bits) = number_at 64 bits

-- ---- values

-- the exclusive or of two values, from the bits in the window: what `xorRead` reads last. Before any window is opened all bits are in it, as in the
-- server's new iterator, whose `leading` and `trailing` are 0.
unfoldable pub within_at : Option BitWindow → List Bool → Option (ℕ × List Bool)
within_at None bits = number_at 64 bits
within_at (Some w) bits = option_map (λ x. (x.0 * 2 ^ w.trailing, x.1)) (number_at (width w) bits)

abbrev pub or_short : {X : Type 0} → Option X → Result X XorFault
or_short None = Err TooShort
or_short (Some x) = Ok x

abbrev pub found_map : {A B : Type 0} → (A → B) → Result A XorFault → Result B XorFault
found_map f (Err fault) = Err fault
found_map f (Ok x) = Ok (f x)

infixl 10 ◌>>=◌
abbrev pub ◌>>=◌ : {A B : Type 0} → Result A XorFault → (A → Result B XorFault) → Result B XorFault
(Err fault) >>= f = Err fault
(Ok x) >>= f = f x

-- the width that six bits say: `mbits` of `xorRead`
abbrev pub said_width : ℕ → ℕ
said_width n = if n == 0 then 64 else n

-- the window that eleven bits say: `newLeading` and `newTrailing` of `xorRead`, which does not look whether there are 64
unfoldable pub window_of : ℕ → Result BitWindow XorFault
window_of head = if nat_lt 64 (head / 64 + said_width (head % 64)) then Err BadWindow else Ok (record { leading = head / 64; trailing = 64 - head / 64 - said_width (head % 64) })

unfoldable pub window_at : List Bool → Result (BitWindow × List Bool) XorFault
window_at bits = do
  head ← or_short (number_at 11 bits)
  w ← window_of head.0
  Ok (w, head.1)

-- a value after the one before, and the window after it: `xorRead`, which `readValue` calls, and below its two cases of a value that differs
unfoldable pub changed_at : ℕ → Option BitWindow → List Bool → Result (ℕ × Option BitWindow × List Bool) XorFault
changed_at v o bits = do
  xor ← or_short (within_at o bits)
  Ok (bit_xor v xor.0, o, xor.1)

unfoldable pub value_at : Option BitWindow → ℕ → List Bool → Result (ℕ × Option BitWindow × List Bool) XorFault
value_at o v [] = Err TooShort
value_at o v (false ∷ bits) = Ok (v, o, bits)
value_at o v (true ∷ []) = Err TooShort
value_at o v (true ∷ false ∷ bits) = changed_at v o bits
value_at o v (true ∷ true ∷ bits) = window_at bits >>= λ x. changed_at v (Some x.0) x.1

-- ---- samples

-- `t`, `val`, `tDelta` and the window that `xorIterator.Next` leaves
abbrev pub next : Before → ℕ → ℕ → Option BitWindow → Before
next b step v o = record { time = plus b.time (plus b.delta step); value = v; delta = plus b.delta step; window = o }

-- a third or later sample: the last part of `xorIterator.Next`
unfoldable pub sample_at : Before → List Bool → Result (Before × List Bool) XorFault
sample_at b bits = do
  step ← or_short (step_at bits)
  value ← value_at b.window b.value step.1
  Ok (next b step.0 value.0 value.1, value.2)

abbrev pub sample_of : Before → Sample
sample_of b = record { time = cast_signed w64 b.time; value = cast_signed w64 b.value }

-- so many samples after those that are read: `xorIterator.Next` until `numRead` is `numTotal`
unfoldable pub samples_at : ℕ → List Sample → Before → List Bool → Result (List Sample) XorFault
samples_at zero read b bits = Ok read
samples_at (suc n) read b bits = sample_at b bits >>= λ x. samples_at n (read ++ sample_of x.0 ∷ []) x.0 x.1

-- ---- chunks

-- the second sample, as the one before the third
abbrev pub second_of : ℕ → ℕ → ℕ → Option BitWindow → Before
second_of time delta v o = record { time = plus time delta; value = v; delta = delta; window = o }

-- the bits after the second time: `xorIterator.Next` from `readValue` of the second sample on
unfoldable pub tail_at : ℕ → Sample → ℕ → List Bool → Result (List Sample) XorFault
tail_at count first delta bits = do
  value ← value_at None (pattern first.value) bits
  samples_at (count - 2) (first ∷ sample_of (second_of (pattern first.time) delta value.0 value.1) ∷ []) (second_of (pattern first.time) delta value.0 value.1) value.2

abbrev pub or_bad : {X : Type 0} → Option X → Result X XorFault
or_bad None = Err BadNumber
or_bad (Some x) = Ok x

-- the bytes after the first sample: `xorIterator.Next` where `numRead` is 1
unfoldable pub second_at : ℕ → Sample → List ℕ → Result (List Sample) XorFault
second_at count first bytes = if count == 1 then Ok (first ∷ []) else or_bad (uvarint_at bytes) >>= λ delta. tail_at count first delta.0 (bits_in (drop delta.1 bytes))

-- the bytes after the first time
unfoldable pub value_behind : ℕ → ℤ → List ℕ → Result (List Sample) XorFault
value_behind count time bytes = if nat_lt (length bytes) 8 then Err TooShort else second_at count (record { time = time; value = cast_signed w64 (big_number 8 bytes) }) (drop 8 bytes)

-- the bytes after the number of samples: `xorIterator.Next` where `numRead` is 0
unfoldable pub first_at : ℕ → List ℕ → Result (List Sample) XorFault
first_at count bytes = if count == 0 then Ok [] else or_bad (varint_at bytes) >>= λ time. value_behind count time.0 (drop time.1 bytes)

-- the samples that the bytes are read as: those of `XORChunk.Iterator`
unfoldable pub unpacked : List ℕ → Result (List Sample) XorFault
unpacked bytes = if nat_lt (length bytes) 2 then Err TooShort else first_at (big_number 2 bytes) (drop 2 bytes)

abbrev pub or_none : Result (List Sample) XorFault → List Sample
or_none (Err fault) = []
or_none (Ok samples) = samples

-- the samples, of which there are so many, of what follows their number; none if there is a fault
unfoldable pub body_samples : ℕ → List ℕ → List Sample
body_samples count body = or_none (first_at count body)

-- what contracts see of a chunk that is being read: how many samples are left, and what they are read as
pub record ReaderValue : Type 0 where
  pub left : ℕ
  pub rest : Result (List Sample) XorFault
