-- Which bytes the decoder of chunks accepts. Only private functions and proofs cite this file.
use Rattle.std.specs.Prelude.{◌≡◌, ℕ, ℤ, ◌-ℤ◌, ◌<ℤ◌, unsigned_abs, FitsSigned, List, [], ◌∷◌, ◌++◌, length, Option, Some, None}
use Rattle.std.specs.Int.{cast_unsigned, w64}
use Rattle.std.specs.List.{All}
use Rattle.hw_bytes.specs.Numbers.{IsFixed, IsUvarint, IsVarint}
use Rattle.xor_chunk.specs.declared.sample.Sample.{Sample}
use Rattle.head_column.specs.Samples.{Rises}
use Rattle.head_column.specs.Chunks.{IsFit, samples_text}

-- the time is greater than the one before it, if there is one
abbrev pub IsPast : Option ℤ → ℤ → Type 0
IsPast None time = Unit {0}
IsPast (Some before) time = before <ℤ time

-- the next time after `before`, with the difference in any spelling
pub record IsStep (before : ℤ) (bytes : List ℕ) (time : ℤ) : Type 0 where
  pub spelled : IsUvarint bytes (unsigned_abs (time -ℤ before))
  pub past : before <ℤ time
  pub fits : FitsSigned w64 time

-- the first time, or the next one
abbrev pub IsTime : Option ℤ → List ℕ → ℤ → Type 0
IsTime None bytes time = IsVarint bytes time
IsTime (Some before) bytes time = IsStep before bytes time

-- a sample, with its time in any spelling
pub record IsSample (before : Option ℤ) (bytes : List ℕ) (s : Sample) : Type 0 where
  pub time_bytes : List ℕ
  pub value_bytes : List ℕ
  pub time : IsTime before time_bytes s.time
  pub value : IsFixed 8 value_bytes (cast_unsigned w64 s.value)
  pub fits : FitsSigned w64 s.value
  pub whole : bytes ≡ time_bytes ++ value_bytes

-- the times ascend, and the first is greater than `before`, if there is one
abbrev pub RisesPast : Option ℤ → List Sample → Type 0
RisesPast before [] = Unit {0}
RisesPast before (s ∷ rest) = IsPast before s.time × RisesPast (Some s.time) rest

-- `count` samples, and the bytes are their text
pub record HaveText (count : ℕ) (bytes : List ℕ) (samples : List Sample) : Type 0 where
  pub many : length samples ≡ count
  pub rises : RisesPast None samples
  pub fit : All IsFit samples
  pub text : bytes ≡ samples_text None samples

-- `count` samples, and the bytes are the text of no others
pub record AreRead (count : ℕ) (bytes : List ℕ) (samples : List Sample) : Type 0 where
  pub many : length samples ≡ count
  pub rises : Rises samples
  pub fit : All IsFit samples
  pub only : (others : List Sample) → HaveText count bytes others → others ≡ samples
