-- Words of private functions and of proofs: no public contract cites them.
use Rattle.std.specs.Prelude.{◌≡◌, ℕ, ◌+◌, ◌-◌, ◌*◌, ◌/◌, ◌^◌, ◌<◌, ◌≤◌, ◌==◌, if◌then◌else◌, Bool, true, false, List, [], ◌∷◌, ◌++◌, All, Option, Some, None, Result, bit_xor, drop, length, replicate}
use Rattle.hw_bytes.specs.Spellings.{IsBytes}
use Rattle.xor_chunk.specs.Samples.{IsFit}
use Rattle.xor_chunk.specs.declared.sample.Sample.{Sample}
use Rattle.xor_chunk.specs.Bits.{bits_of, bits_in, bytes_of}
use Rattle.xor_chunk.specs.Chunks.{pattern, after, second, sample_bits, value_bits, is_whole, first_bytes, delta_bytes, head_bytes, behind_head, is_whole_chunk}
use Rattle.xor_chunk.specs.Reading.{first_at, found_map, or_none, samples_at, second_at}
use Rattle.xor_chunk.specs.Writing.{xor_body}
use Rattle.xor_chunk.specs.declared.before.BitWindow.{BitWindow}
use Rattle.xor_chunk.specs.declared.before.Before.{Before}
use Rattle.xor_chunk.specs.declared.before.Last.{Last}
use Rattle.xor_chunk.specs.declared.before.Last.TheVariants.{Nothing, First, Later}
use Rattle.xor_chunk.specs.declared.fault.XorFault.{XorFault}

-- how many zeros fill the last byte; if `whole` is set, there is at least one, so that an empty byte follows bits that end with a byte
abbrev pub IsPad : Bool → ℕ → Type 0
IsPad false pad = pad < 8
IsPad true pad = (0 < pad) × (pad ≤ 8)

-- the bytes hold these bits, and zeros to the end of the last byte
pub record IsPacked (bytes : List ℕ) (whole : Bool) (bits : List Bool) : Type 0 where
  pub pad : ℕ
  pub short : IsPad whole pad
  pub filled : bits_in bytes ≡ bits ++ replicate pad false

-- some of the bytes that waited are behind the others
pub record IsMoved (old waited new waiting : List ℕ) : Type 0 where
  pub moved : List ℕ
  pub are : new ≡ old ++ moved
  pub left : moved ++ waiting ≡ waited

-- the new bytes are the old ones, and behind them the first 32 of so many bits
pub record IsWord (old new : List ℕ) (count held : ℕ) : Type 0 where
  pub back : List ℕ
  pub is : new ≡ old ++ back
  pub bits : bits_in back ++ bits_of (count - 32) held ≡ bits_of count held

-- the new bytes are the old ones, and behind them these bits
pub record IsEnded (old new : List ℕ) (whole : Bool) (bits : List Bool) : Type 0 where
  pub back : List ℕ
  pub is : new ≡ old ++ back
  pub packed : IsPacked back whole bits

-- the window holds each 1 of some bits
pub record Holds (w : BitWindow) (x : ℕ) : Type 0 where
  pub within : w.leading + w.trailing < 64
  pub small : x / 2 ^ w.trailing < 2 ^ (64 - w.leading - w.trailing)
  pub whole : x / 2 ^ w.trailing * 2 ^ w.trailing ≡ x

-- a window leaves some bits
abbrev pub IsOpen : Option BitWindow → Type 0
IsOpen None = Unit {0}
IsOpen (Some w) = w.leading + w.trailing < 64

-- ---- a chunk that is being written

-- what is kept of the samples after others
abbrev pub after_all : Before → List Sample → Before
after_all b [] = b
after_all b (s ∷ more) = after_all (after b s) more

-- what is kept of all samples of a chunk
abbrev pub last_of : List Sample → Last
last_of [] = Nothing
last_of (a ∷ []) = First a
last_of (a ∷ b ∷ more) = Later (after_all (second a b) more)

-- what a sample appends
unfoldable pub next_bits : Last → Sample → List Bool
next_bits Nothing s = bits_in (first_bytes s)
next_bits (First a) s = bits_in (delta_bytes a s) ++ value_bits None (bit_xor (pattern a.value) (pattern s.value))
next_bits (Later b) s = sample_bits b s

-- what is kept after it
unfoldable pub next_last : Last → Sample → Last
next_last Nothing s = First s
next_last (First a) s = Later (second a s)
next_last (Later b) s = Later (after b s)

-- the last number of it has whole bytes
unfoldable pub next_whole : Last → Sample → Bool
next_whole Nothing s = true
next_whole (First a) s = is_whole None (bit_xor (pattern a.value) (pattern s.value))
next_whole (Later b) s = is_whole b.window (bit_xor b.value (pattern s.value))

-- the bits of a chunk's samples, without their number
abbrev pub body_bits : List Sample → List Bool
body_bits samples = bits_in (head_bytes samples) ++ behind_head samples

-- the bits, and what is kept beside them, are those of the samples
pub record IsWritten (samples : List Sample) (bits : List Bool) (count : ℕ) (whole : Bool) (last : Last) : Type 0 where
  pub few : length samples ≤ 65535
  pub fit : All IsFit samples
  pub bits_are : bits ≡ body_bits samples
  pub count_is : count ≡ length samples
  pub whole_is : whole ≡ is_whole_chunk samples
  pub last_is : last ≡ last_of samples

-- these bits, ended, are the body of a chunk of so many samples
pub record IsBodyOf (samples : List Sample) (count : ℕ) (whole : Bool) (bits : List Bool) : Type 0 where
  pub few : length samples ≤ 65535
  pub fit : All IsFit samples
  pub count_is : count ≡ length samples
  pub text_is : (text : List ℕ) → IsBytes text → IsPacked text whole bits → text ≡ xor_body samples

-- the samples that so many are read as
abbrev pub read_of : ℕ → List Bool → List Sample
read_of count bits = or_none (first_at count (bytes_of bits))

-- how many bits the end of a chunk takes at most
abbrev pub ending : ℕ → ℕ
ending count = if count == 0 then 0 else 8

-- how many bits a sample takes at most, with the end of the chunk
abbrev pub most_bits : ℕ
most_bits = 192

-- ---- a chunk that is being read

-- a window that is kept leaves some bits
abbrev pub IsLastOpen : Last → Type 0
IsLastOpen Nothing = Unit {0}
IsLastOpen (First a) = Unit {0}
IsLastOpen (Later b) = IsOpen b.window

-- what the samples that are left are read as, from bytes if there are fewer than two before them, and else from bits
unfoldable pub rest_of : ℕ → Last → List ℕ → List Bool → Result (List Sample) XorFault
rest_of left Nothing bytes bits = first_at left bytes
rest_of left (First a) bytes bits = found_map (drop 1) (second_at (left + 1) a bytes)
rest_of left (Later b) bytes bits = samples_at left [] b bits
