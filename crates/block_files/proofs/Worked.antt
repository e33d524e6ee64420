-- The worked block, by computation.
use Rattle.std.proofs.Common.{◌≡◌, [], ◌∷◌, length, map, refl}
use Rattle.std.specs.Prelude.{codes, pos, replicate}
use Rattle.std.specs.Fmt.{digits}
use Rattle.hw_bytes.specs.Checksum.{crc32c, divided, divided_times}
use Rattle.hw_bytes.specs.Writing.{uvarint, uvarint_in}
use Rattle.hw_bytes.specs.Sums.{Text, sum_text}
use Rattle.block_files.specs.declared.encoding.Encoding.TheVariants.{Raw, Xor}
use Rattle.block_files.specs.Files.{chunk_files, references, reference_behind, with_chunk}
use Rattle.block_files.specs.Meta.{meta_text}
use Rattle.block_files.specs.Tombstones.{tombstones_text}

abbrev first : Text
first = 0x00 ∷ 0x01 ∷ 0xA0 ∷ 0x1F ∷ 0 ∷ 0 ∷ 0 ∷ 0 ∷ 0 ∷ 0 ∷ 0 ∷ 0x14 ∷ []

abbrev second : Text
second = 0x00 ∷ 0x02 ∷ 0xD0 ∷ 0x0F ∷ 0 ∷ 0 ∷ 0 ∷ 0 ∷ 0 ∷ 0 ∷ 0 ∷ 0x0A ∷ 0xD0 ∷ 0x0F ∷ 0 ∷ 0 ∷ 0 ∷ 0 ∷ 0 ∷ 0 ∷ 0 ∷ 0x0B ∷ []

-- one file of 54 bytes, and in it the chunks at 8 and at 26
pub lengths : map length (chunk_files Raw 536870912 (first ∷ second ∷ [])) ≡ 54 ∷ []
unfolding with_chunk uvarint uvarint_in sum_text
lengths = refl

pub places : references Raw 536870912 ((first ∷ []) ∷ (second ∷ []) ∷ []) ≡ (8 ∷ []) ∷ (26 ∷ []) ∷ []
unfolding with_chunk reference_behind uvarint uvarint_in sum_text
places = refl

-- in the other encoding a chunk takes as many bytes
pub as_many : map length (chunk_files Xor 536870912 (first ∷ second ∷ [])) ≡ 54 ∷ []
unfolding with_chunk uvarint uvarint_in sum_text
as_many = refl

-- four chunks of 1201 bytes: where the fourth would make the file longer than 4096 bytes, it begins another
abbrev long : Text
long = replicate 1201 0

pub limited : map length (chunk_files Raw 4096 (long ∷ long ∷ long ∷ long ∷ [])) ≡ 3632 ∷ 1216 ∷ []
unfolding with_chunk uvarint uvarint_in sum_text
limited = refl

pub limited_places : references Raw 4096 ((long ∷ long ∷ long ∷ long ∷ []) ∷ []) ≡ (8 ∷ 1216 ∷ 2424 ∷ 4294967304 ∷ []) ∷ []
unfolding with_chunk reference_behind uvarint uvarint_in sum_text
limited_places = refl

pub no_tombstones : tombstones_text [] ≡ 0x01 ∷ 0x30 ∷ 0xBA ∷ 0x30 ∷ 1 ∷ 0 ∷ 0 ∷ 0 ∷ 0 ∷ []
unfolding tombstones_text sum_text crc32c divided divided_times
no_tombstones = refl

pub meta : meta_text (record { ulid = codes "01ARZ3NDEKTSV4RRFFQ69G5FAV"; min_time = pos 0; max_time = pos 3600000; samples = 3; series = 2; chunks = 2 })
    ≡ codes "{\n\t\"ulid\": \"01ARZ3NDEKTSV4RRFFQ69G5FAV\",\n\t\"minTime\": 0,\n\t\"maxTime\": 3600000,\n\t\"stats\": {\n\t\t\"numSamples\": 3,\n\t\t\"numSeries\": 2,\n\t\t\"numChunks\": 2\n\t},\n\t\"compaction\": {\n\t\t\"level\": 1,\n\t\t\"sources\": [\n\t\t\t\"01ARZ3NDEKTSV4RRFFQ69G5FAV\"\n\t\t]\n\t},\n\t\"version\": 1\n}\n"
unfolding meta_text digits
meta = refl
