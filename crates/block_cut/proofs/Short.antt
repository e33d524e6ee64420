-- How long the data of a chunk may be.
use Rattle.std.proofs.Common.{◌≡◌, ℕ, zero, suc, ◌+◌, ◌*◌, ◌/◌, ◌%◌, ◌≤◌, Bool, true, false, List, [], ◌∷◌, length, map, take, drop, refl, arith, All}
use Rattle.std.specs.Prelude.{ℤ, Option, None, Some, nat_lt, cond}
use Rattle.std.proofs.lemmas.List.{length-append, length-take}
use Rattle.std.proofs.lemmas.List.Elements.{All-cons, All-nil}
use Rattle.hw_bytes.specs.Writing.{big_bytes, uvarint, uvarint_in}
use Rattle.head_column.specs.Samples.{Sample}
use Rattle.head_column.specs.Chunks.{chunk_text, parts_in, sample_text, samples_text, time_text, value_text}
use Rattle.xor_chunk.specs.Chunks.{xor_text}
use Rattle.block_files.specs.declared.encoding.Encoding.{Encoding}
use Rattle.block_files.specs.declared.encoding.Encoding.TheVariants.{Raw, Xor}
use Rattle.block_files.specs.declared.places.ChunkSpan.{ChunkSpan}
use Rattle.block_files.specs.Files.{longest_chunk}
use Rattle.block_files.specs.Places.{span_of}
use Rattle.block_read.specs.declared.rows.BlockRow.{BlockRow}
use Rattle.block_read.specs.Blocks.{chunk_in, chunks_in, data_in}
use Rattle.block_cut.specs.Cutting.{spans_in}

uvarint_in-short : (k n : ℕ) → length (uvarint_in k n) ≤ suc k
unfolding uvarint_in
uvarint_in-short zero n = omega arith
uvarint_in-short (suc k) n = by (nat_lt n 128) (uvarint_in-short k (n / 128)) where
  by : (b : Bool) → length (uvarint_in k (n / 128)) ≤ suc k → length (cond b (n ∷ []) ((n % 128 + 128) ∷ uvarint_in k (n / 128))) ≤ suc (suc k)
  by true h = omega arith
  by false h = omega arith

uvarint-short : (n : ℕ) → length (uvarint n) ≤ 10
unfolding uvarint
uvarint-short n = uvarint_in-short 9 n

time_text-short : (before : Option ℤ) (t : ℤ) → length (time_text before t) ≤ 10
time_text-short None t = uvarint-short _
time_text-short (Some u) t = uvarint-short _

samples_text-short : (before : Option ℤ) (xs : List Sample) → length (samples_text before xs) ≤ 18 * length xs
samples_text-short before [] = omega arith
samples_text-short before (s ∷ xs) =
    let rest = samples_text-short (Some s.time) xs in
    let time = time_text-short before s.time in
    let value : length (value_text s.value) ≡ 8 = refl in
    omega (arith, rest, time, value, length-append (sample_text before s) (samples_text (Some s.time) xs), length-append (time_text before s.time) (value_text s.value))

chunk_text-short : (xs : List Sample) → length xs ≤ 120 → length (chunk_text xs) ≤ 2162
chunk_text-short xs few =
    let count : length (big_bytes 2 (length xs)) ≡ 2 = refl in
    omega (arith, samples_text-short None xs, few, count, length-append (big_bytes 2 (length xs)) (samples_text None xs))

abbrev IsShort : List ℕ → Type 0
IsShort bytes = length bytes ≤ longest_chunk

abbrev IsShortSpan : ChunkSpan → Type 0
IsShortSpan span = span.len ≤ longest_chunk

-- how long XOR chunks are
abbrev XorsAreShort : Type 0
XorsAreShort = (samples : List Sample) → length samples ≤ 120 → length (xor_text samples) ≤ 2180

data-short : (e : Encoding) → XorsAreShort → (xs : List Sample) → length xs ≤ 120 → IsShort (data_in e xs)
data-short Raw law xs few = omega (arith, chunk_text-short xs few)
data-short Xor law xs few = law xs few

parts-short : (e : Encoding) → XorsAreShort → (k : ℕ) (xs : List Sample) → All IsShortSpan (map span_of (map (chunk_in e) (parts_in k 120 xs)))
parts-short e law zero xs = All-nil IsShortSpan
parts-short e law (suc k) [] = All-nil IsShortSpan
parts-short e law (suc k) (x ∷ xs) =
    All-cons IsShortSpan (span_of (chunk_in e (take 120 (x ∷ xs)))) (map span_of (map (chunk_in e) (parts_in k 120 (drop 120 (x ∷ xs)))))
    (data-short e law (take 120 (x ∷ xs)) (omega (arith, length-take 120 (x ∷ xs)))) (parts-short e law k (drop 120 (x ∷ xs)))

-- the chunks of any rows are short enough
pub spans-short : (e : Encoding) → ((samples : List Sample) → length samples ≤ 120 → length (xor_text samples) ≤ 2180) → (rows : List BlockRow) → All (All (λ (span : ChunkSpan). span.len ≤ longest_chunk)) (spans_in e rows)
spans-short e law [] = All-nil (All IsShortSpan)
spans-short e law (row ∷ rows) = All-cons (All IsShortSpan) (map span_of (chunks_in e row.samples)) (spans_in e rows) (parts-short e law (length row.samples) row.samples) (spans-short e law rows)
