-- How a column keeps its samples: in chunks as a server's blocks have them, of which only the last one takes more samples.
use Rattle.std.specs.Prelude.{◌≡◌, ℕ, ◌<◌, ◌≤◌, ◌^◌, ℤ, List, [], ◌∷◌, ◌++◌, Option, All, drop, filter, length, map, take, if◌then◌else◌}
use Rattle.std.specs.Prelude.{Vec, false, int_lt, min, ◌+◌, ◌-◌, vec_len}
use Rattle.std.specs.Global.{Global}
use Rattle.std.specs.Vec.{vec_capacity}
use Rattle.std.specs.List.{flat_map}
use Rattle.xor_chunk.specs.declared.sample.Sample.{Sample}
use Rattle.xor_chunk.specs.Samples.{IsFit}
use Rattle.xor_chunk.specs.Reading.{body_samples}
use Rattle.xor_chunk.specs.Writing.{WriterValue, xor_body}
use Rattle.head_column.specs.declared.chunk.Chunk.{Chunk}
use Rattle.head_column.specs.declared.sealed.SealedChunk.{SealedChunk}
use Rattle.head_column.specs.Chunks.{chunk_samples, last_time, xor_chunk_of}
use Rattle.head_column.specs.Histories.{latest}
use Rattle.head_column.specs.Hours.{is_in_hour}
use Rattle.head_column.specs.Samples.{Rises}
use Rattle.head_column.specs.Validity.{samples_from}

-- the greatest number of chunks before the last one
abbrev pub most_chunks : ℕ
most_chunks = 2 ^ 56

-- what contracts see of the samples of a column: the samples, and how many more they have memory for
pub record StoredValue : Type 0 where
  pub samples : List Sample
  pub room : ℕ

-- each hour has both times, or neither
abbrev pub IsSameHour : ℤ → ℤ → Type 0
IsSameHour t u = (k : ℤ) → is_in_hour k t ≡ is_in_hour k u

-- the samples are of the hour of this time
abbrev pub AreInHour : ℤ → List Sample → Type 0
AreInHour t samples = All (λ s. IsSameHour s.time t) samples

-- the chunk has these samples, 1 to `chunk_samples` of one hour, and this text
pub record IsSealed (c : SealedChunk) (text : List ℕ) (samples : List Sample) : Type 0 where
  pub len : c.len ≡ length text
  pub text_is : text ≡ xor_body samples
  pub count : c.count ≡ length samples
  pub some : 0 < length samples
  pub few : length samples ≤ chunk_samples
  pub fit : All IsFit samples
  pub last : c.max_time ≡ last_time samples
  pub hour : AreInHour c.max_time samples

-- the samples of each chunk, whose texts lie one behind another
abbrev pub sealed_parts : List SealedChunk → List ℕ → List (List Sample)
sealed_parts [] bytes = []
sealed_parts (c ∷ more) bytes = body_samples c.count (take c.len bytes) ∷ sealed_parts more (drop c.len bytes)

-- all samples of the chunks
abbrev pub sealed_samples : List SealedChunk → List ℕ → List Sample
sealed_samples sealed bytes = flat_map (λ part. part) (sealed_parts sealed bytes)

-- each text is that of a chunk, and there are no other bytes
abbrev pub AreSealed : List SealedChunk → List ℕ → Type 0
AreSealed [] bytes = bytes ≡ []
AreSealed (c ∷ more) bytes = IsSealed c (take c.len bytes) (body_samples c.count (take c.len bytes)) × AreSealed more (drop c.len bytes)

-- one chunk more, with so many samples
pub record IsMore (old new : List SealedChunk) (count : ℕ) : Type 0 where
  pub chunk : SealedChunk
  pub is : new ≡ old ++ chunk ∷ []
  pub count_is : chunk.count ≡ count

-- the first chunk has more samples than are dropped
abbrev pub IsKept : List SealedChunk → List Sample → ℕ → Type 0
IsKept [] [] dropped = dropped ≡ 0
IsKept [] (s ∷ last) dropped = dropped ≤ length last
IsKept (c ∷ more) last dropped = dropped < c.count

-- all samples of the chunks and of the open one, with those that are dropped
abbrev pub stored : List SealedChunk → WriterValue → List Sample
stored sealed w = sealed_samples sealed w.front ++ w.samples

-- the samples of the first chunk
abbrev pub first_part : List SealedChunk → WriterValue → List Sample
first_part [] w = w.samples
first_part (c ∷ more) w = body_samples c.count (take c.len w.front)

-- the time of its last sample
abbrev pub first_hour : List SealedChunk → WriterValue → ℤ
first_hour [] w = last_time w.samples
first_hour (c ∷ more) w = c.max_time

-- how long the texts of chunks are in all
abbrev pub text_len : List SealedChunk → ℕ
text_len [] = 0
text_len (c ∷ more) = c.len + text_len more

-- for how many more chunks there is memory
abbrev pub chunk_room : Vec SealedChunk Global → ℕ
chunk_room sealed = min most_chunks (vec_capacity sealed) - vec_len sealed

-- The chunks hold samples whose times rise, and the greatest time of those that are kept is this one.
pub record AreStored (sealed : List SealedChunk) (w : WriterValue) (dropped : ℕ) (greatest : Option ℤ) : Type 0 where
  pub sealed_are : AreSealed sealed w.front
  pub few : length w.samples ≤ chunk_samples
  pub fit : All IsFit w.samples
  pub hour : AreInHour (last_time w.samples) w.samples
  pub most : length sealed ≤ most_chunks
  pub kept : IsKept sealed w.samples dropped
  pub rises : Rises (stored sealed w)
  pub latest_is : greatest ≡ latest (drop dropped (stored sealed w))

-- without the chunks that are over before the time
pub record AreCut (t : ℤ) (sealed more : List SealedChunk) (old new : WriterValue) (d e : ℕ) (g : Option ℤ) : Type 0 where
  pub are : AreStored more new e g
  pub left : samples_from t (drop e (stored more new)) ≡ samples_from t (drop d (stored sealed old))

-- the first chunk is not over before the time
abbrev pub IsLate : ℤ → List SealedChunk → Type 0
IsLate t sealed = (c : SealedChunk) (more : List SealedChunk) → sealed ≡ c ∷ more → int_lt c.max_time t ≡ false

-- the part, if the time is in the hour
abbrev pub one_part : ℤ → ℤ → List Sample → List (List Sample)
one_part k t part = if is_in_hour k t then part ∷ [] else []

-- the parts of an hour, one for each sealed chunk of it
abbrev pub hour_parts : ℤ → List SealedChunk → List ℕ → List (List Sample)
hour_parts k [] bytes = []
hour_parts k (c ∷ more) bytes = one_part k c.max_time (body_samples c.count (take c.len bytes)) ++ hour_parts k more (drop c.len bytes)

-- and one for the open chunk, if it has samples of the hour
abbrev pub open_parts : ℤ → List Sample → List (List Sample)
open_parts k [] = []
open_parts k (s ∷ more) = one_part k (last_time (s ∷ more)) (s ∷ more)

-- The chunks are a server's, of the samples of an hour: 1 to `chunk_samples` to each.
pub record AreCopies (k : ℤ) (samples : List Sample) (chunks : List Chunk) : Type 0 where
  pub cut : List (List Sample)
  pub are : chunks ≡ map xor_chunk_of cut
  pub joined : flat_map (λ part. part) cut ≡ filter (λ s. is_in_hour k s.time) samples
  pub some : All (λ part. 0 < length part) cut
  pub few : All (λ part. length part ≤ chunk_samples) cut
