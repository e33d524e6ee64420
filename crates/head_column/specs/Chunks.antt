-- Chunks: the text of some samples, and how samples are cut into chunks.
use Rattle.std.specs.Prelude.{ℕ, ◌<◌, ◌≤◌, ℤ, pos, ◌-ℤ◌, unsigned_abs, List, [], ◌∷◌, ◌++◌, length, map, Option, Some, None}
use Rattle.std.specs.Int.{cast_unsigned, w64}
use Rattle.std.specs.List.{All}
use Rattle.hw_bytes.specs.Writing.{big_bytes, uvarint, varint}
use Rattle.xor_chunk.specs.declared.sample.Sample.{Sample}
use Rattle.xor_chunk.specs.Chunks.{xor_text}
use Rattle.head_column.specs.declared.chunk.Chunk.{Chunk}
use Rattle.head_column.specs.Samples.{Rises}
pub use Rattle.xor_chunk.specs.Samples.{IsFit}
pub use Rattle.xor_chunk.specs.Parts.{AreFull, ArePartsOf, parts, parts_in}

-- the number of samples of a chunk; the last one of an hour may have fewer
abbrev pub chunk_samples : ℕ
chunk_samples = 120

-- 1 to `chunk_samples` samples, with ascending times
pub record IsChunk (samples : List Sample) : Type 0 where
  pub some : 0 < length samples
  pub few : length samples ≤ chunk_samples
  pub rises : Rises samples
  pub fit : All IsFit samples

-- a time: the first one as a varint, each later one as the uvarint of the difference to the one before
abbrev pub time_text : Option ℤ → ℤ → List ℕ
time_text None time = varint time
time_text (Some before) time = uvarint (unsigned_abs (time -ℤ before))

-- a value: eight bytes, big-endian, two's complement
abbrev pub value_text : ℤ → List ℕ
value_text value = big_bytes 8 (cast_unsigned w64 value)

-- a sample: its time, and its value
abbrev pub sample_text : Option ℤ → Sample → List ℕ
sample_text before s = time_text before s.time ++ value_text s.value

-- samples, of which the first is at the front, or comes next after the time `before`
abbrev pub samples_text : Option ℤ → List Sample → List ℕ
samples_text before [] = []
samples_text before (s ∷ rest) = sample_text before s ++ samples_text (Some s.time) rest

-- the text of a chunk: the number of samples in two bytes, and the samples
abbrev pub chunk_text : List Sample → List ℕ
chunk_text samples = big_bytes 2 (length samples) ++ samples_text None samples

abbrev pub first_time : List Sample → ℤ
first_time [] = pos 0
first_time (s ∷ rest) = s.time

abbrev pub last_time : List Sample → ℤ
last_time [] = pos 0
last_time (s ∷ []) = s.time
last_time (s ∷ t ∷ rest) = last_time (t ∷ rest)

abbrev pub chunk_of : List Sample → Chunk
chunk_of samples = record { min_time = first_time samples; max_time = last_time samples; count = length samples; text = chunk_text samples }

-- the chunks of some samples: `chunk_samples` to a chunk, perhaps fewer in the last
abbrev pub chunks_of : List Sample → List Chunk
chunks_of samples = map chunk_of (parts chunk_samples samples)

-- a server's chunk of some samples
abbrev pub xor_chunk_of : List Sample → Chunk
xor_chunk_of samples = record { min_time = first_time samples; max_time = last_time samples; count = length samples; text = xor_text samples }

-- the same cut, as a server's chunks
abbrev pub xor_chunks_of : List Sample → List Chunk
xor_chunks_of samples = map xor_chunk_of (parts chunk_samples samples)
