-- Chunk files of limited length, and the references of their chunks.
use Rattle.std.specs.Prelude.{◌≡◌, ℕ, ◌+◌, ◌-◌, ◌*◌, ◌/◌, ◌%◌, ◌≤◌, ◌^◌, List, [], ◌∷◌, ◌++◌, length, map, drop, All, Some, slice_get, nat_le, if◌then◌else◌}
use Rattle.std.specs.List.{fold, flat_map}
use Rattle.hw_bytes.specs.Lists.{along}
use Rattle.hw_bytes.specs.Writing.{uvarint}
use Rattle.hw_bytes.specs.Numbers.{IsUvarint}
use Rattle.hw_bytes.specs.Sums.{Text, sum_text}
use Rattle.head_column.specs.declared.chunk.Chunk.{Chunk}
use Rattle.block_files.specs.declared.encoding.Encoding.{Encoding}
use Rattle.block_files.specs.declared.encoding.Encoding.TheVariants.{Raw, Xor}

-- the byte of an encoding
abbrev pub encoding_byte : Encoding → ℕ
encoding_byte Raw = 0x41
encoding_byte Xor = 1

-- A chunk in its file: the length of its data as a uvarint, the encoding, the data, and the checksum of the encoding and the data.
abbrev pub chunk_element : Encoding → Text → Text
chunk_element e body = uvarint (length body) ++ encoding_byte e ∷ body ++ sum_text (encoding_byte e ∷ body)

-- the header of a chunk file: the magic number, the version and three zeros
abbrev pub file_head : Text
file_head = 0x85 ∷ 0xBD ∷ 0x40 ∷ 0xDD ∷ 1 ∷ 0 ∷ 0 ∷ 0 ∷ []

-- The files with a chunk appended: to the last file, or to a new one if the last would exceed the limit.
unfoldable pub with_chunk : Encoding → ℕ → List Text → Text → List Text
with_chunk e limit [] body = (file_head ++ chunk_element e body) ∷ []
with_chunk e limit (f ∷ []) body =
    if nat_le (length f + length (chunk_element e body)) limit then (f ++ chunk_element e body) ∷ [] else f ∷ (file_head ++ chunk_element e body) ∷ []
with_chunk e limit (f ∷ g ∷ more) body = f ∷ with_chunk e limit (g ∷ more) body

-- The chunk files of chunks, in order.
abbrev pub chunk_files : Encoding → ℕ → List Text → List Text
chunk_files e limit chunks = fold (with_chunk e limit) [] chunks

-- the length of the last file
abbrev pub last_length : List Text → ℕ
last_length [] = 0
last_length (f ∷ []) = length f
last_length (f ∷ g ∷ more) = last_length (g ∷ more)

-- the reference of the last chunk of files: the number of its file, from 0, times 2^32, plus the offset of its length
abbrev pub last_reference : Encoding → List Text → Text → ℕ
last_reference e files body = (length files - 1) * 2 ^ 32 + (last_length files - length (chunk_element e body))

-- The reference of a chunk after the chunks `before`.
unfoldable pub reference_behind : Encoding → ℕ → List Text → Text → ℕ
reference_behind e limit before body = last_reference e (chunk_files e limit (before ++ body ∷ [])) body

-- the references of the chunks of a row after the rows `before`
abbrev pub row_references : Encoding → ℕ → List (List Text) → List Text → List ℕ
row_references e limit before row = along (λ others body. reference_behind e limit (flat_map (λ r. r) before ++ others) body ∷ []) row

-- the references of the chunks of each row
abbrev pub references : Encoding → ℕ → List (List Text) → List (List ℕ)
references e limit rows = along (λ before row. row_references e limit before row ∷ []) rows

-- the data of the chunks of a row
abbrev pub row_texts : List Chunk → List Text
row_texts row = map (λ (c : Chunk). c.text) row

-- the data of the chunks of each row
abbrev pub texts : List (List Chunk) → List (List Text)
texts rows = map row_texts rows

-- the data of all chunks
abbrev pub all_texts : List (List Chunk) → List Text
all_texts rows = flat_map (λ r. r) (texts rows)

-- the longest data of a chunk: no 120 samples have more, in either encoding
abbrev pub longest_chunk : ℕ
longest_chunk = 2180

-- the data of each chunk are at most as long as those of 120 samples can be
abbrev pub AreShort : List (List Chunk) → Type 0
AreShort rows = All (λ body. length body ≤ longest_chunk) (all_texts rows)

-- The bytes begin with a chunk of these data in this encoding: their length in any spelling of a uvarint, the encoding, the data and the checksum.
pub record BeginsWith (e : Encoding) (bytes body : Text) : Type 0 where
  pub spelled : Text
  pub rest : Text
  pub is_length : IsUvarint spelled (length body)
  pub whole : bytes ≡ spelled ++ encoding_byte e ∷ body ++ sum_text (encoding_byte e ∷ body) ++ rest

-- A chunk with these data in this encoding is at the reference: in its file, at its offset.
pub record StandsAt (e : Encoding) (files : List Text) (reference : ℕ) (body : Text) : Type 0 where
  pub file : Text
  pub is_file : slice_get files (reference / 2 ^ 32) ≡ Some file
  pub there : BeginsWith e (drop (reference % 2 ^ 32) file) body

-- the full files and the last one, if it has begun
abbrev pub with_last : List Text → Text → List Text
with_last full [] = full
with_last full (b ∷ more) = full ++ (b ∷ more) ∷ []

-- The value of `ChunkFiles`: the encoding of the chunks, the limit of the length of files, and the files so far.
pub record Written : Type 0 where
  pub encoding : Encoding
  pub limit : ℕ
  pub files : List Text
