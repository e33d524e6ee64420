-- The fields of an index. Reading one at the front of bytes gives its value and the bytes after it, or `BadSection`.
use Rattle.std.specs.Prelude.{ℕ, zero, suc, ◌+◌, ◌^◌, ◌%◌, ◌==◌, nat_lt, int_le, if◌then◌else◌, ℤ, pos, ◌+ℤ◌, List, [], ◌∷◌, length, drop, Result, Ok, Err}
use Rattle.std.specs.Int.{w64, cast_unsigned}
use Rattle.index_text.specs.Layout.{number_at}
use Rattle.hw_bytes.specs.Reading.{uvarint_at, varint_at, text_at}
use Rattle.index_text.specs.declared.fault.ReadFault.{ReadFault}
use Rattle.index_text.specs.declared.fault.ReadFault.TheVariants.{BadSection}
use Rattle.wal_record.specs.declared.labels.Label.{Label}
use Rattle.index_text.specs.declared.row.ChunkMeta.{ChunkMeta}
use Rattle.index_text.specs.Gives.{◌>>=◌, nothing_left, or_bad, rest_of}
use Rattle.index_text.specs.Layout.{Text}

-- A field with values in X.
abbrev pub Field : Type 0 → Type 0
Field X = List ℕ → Result (X × List ℕ) ReadFault

-- a big-endian number of four bytes
unfoldable pub four : Field ℕ
four bytes = do
  n ← or_bad (number_at 4 bytes)
  Ok (n, drop 4 bytes)

-- a uvarint
unfoldable pub uvarint_field : Field ℕ
uvarint_field bytes = do
  x ← or_bad (uvarint_at bytes)
  Ok (x.0, drop x.1 bytes)

-- a varint
unfoldable pub varint_field : Field ℤ
varint_field bytes = do
  x ← or_bad (varint_at bytes)
  Ok (x.0, drop x.1 bytes)

-- a text: its length as a uvarint, and its bytes
unfoldable pub text_field : Field Text
text_field bytes = do
  x ← or_bad (text_at bytes)
  Ok (x.0, drop x.1 bytes)

-- n fields, one after another
unfoldable pub times : {X : Type 0} → Field X → ℕ → Field (List X)
times field zero bytes = Ok ([], bytes)
times field (suc n) bytes = do
  first ← field bytes
  others ← times field n first.1
  Ok (first.0 ∷ others.0, others.1)

-- the value of a field that takes all of the bytes
abbrev pub whole : {X : Type 0} → Field X → List ℕ → Result X ReadFault
whole field bytes = do
  x ← field bytes
  if length x.1 == 0 then Ok x.0 else Err BadSection

-- a reference to a symbol: a uvarint below the limit, the number of symbols
unfoldable pub reference_field : ℕ → Field ℕ
reference_field limit bytes = do
  x ← uvarint_field bytes
  if nat_lt x.0 limit then Ok x else Err BadSection

-- a label: the references of its name and its value
unfoldable pub pair_field : ℕ → Field (ℕ × ℕ)
pair_field limit bytes = do
  name ← reference_field limit bytes
  value ← reference_field limit name.1
  Ok ((name.0, value.0), value.1)

-- the time n milliseconds after t, if it has 64 bits
abbrev pub later : ℤ → ℕ → Result ℤ ReadFault
later t n = let sum = t +ℤ pos n in if int_le sum (pos 9223372036854775807) then Ok sum else Err BadSection

-- the first chunk of a series: first time, span to the last time, reference
unfoldable pub first_chunk : Field ChunkMeta
first_chunk bytes = do
  min_time ← varint_field bytes
  span ← uvarint_field min_time.1
  max_time ← later min_time.0 span.0
  reference ← uvarint_field span.1
  Ok (record { min_time = min_time.0; max_time = max_time; reference = reference.0 }, reference.1)

-- the chunk after another: gap between the two, span, and the difference of the references modulo 2^64
unfoldable pub next_chunk : ChunkMeta → Field ChunkMeta
next_chunk last bytes = do
  gap ← uvarint_field bytes
  min_time ← later last.max_time gap.0
  span ← uvarint_field gap.1
  max_time ← later min_time span.0
  step ← varint_field span.1
  Ok (record { min_time = min_time; max_time = max_time; reference = (last.reference + cast_unsigned w64 step.0) % 2 ^ 64 }, step.1)

-- the chunks after another
unfoldable pub next_chunks : ℕ → ChunkMeta → Field (List ChunkMeta)
next_chunks zero last bytes = Ok ([], bytes)
next_chunks (suc n) last bytes = do
  c ← next_chunk last bytes
  cs ← next_chunks n c.0 c.1
  Ok (c.0 ∷ cs.0, cs.1)

-- the chunks of a series
unfoldable pub chunks_field : ℕ → Field (List ChunkMeta)
chunks_field zero bytes = Ok ([], bytes)
chunks_field (suc n) bytes = do
  c ← first_chunk bytes
  cs ← next_chunks n c.0 c.1
  Ok (c.0 ∷ cs.0, cs.1)

-- ---- the contents of elements

-- a stored series: the references of the names and values of its labels, and its chunks
pub record Stored : Type 0 where
  pub labels : List (ℕ × ℕ)
  pub chunks : List ChunkMeta

-- the contents of the symbols: the count in four bytes, and the texts
unfoldable pub symbols_field : Field (List Text)
symbols_field bytes = do
  count ← four bytes
  times text_field count.0 count.1

-- the contents of a series: the count of its labels, the labels, the count of its chunks, the chunks
unfoldable pub series_field : ℕ → Field Stored
series_field limit bytes = do
  label_count ← uvarint_field bytes
  labels ← times (pair_field limit) label_count.0 label_count.1
  chunk_count ← uvarint_field labels.1
  chunks ← chunks_field chunk_count.0 chunk_count.1
  Ok (record { labels = labels.0; chunks = chunks.0 }, chunks.1)

-- a number of four bytes below the limit
unfoldable pub four_below : ℕ → Field ℕ
four_below limit bytes = do
  x ← four bytes
  if nat_lt x.0 limit then Ok x else Err BadSection

-- a number of four bytes that is this one; the result is the bytes after it
unfoldable pub fixed : ℕ → List ℕ → Result (List ℕ) ReadFault
fixed value bytes = do
  x ← four bytes
  if x.0 == value then Ok x.1 else Err BadSection

-- the bytes are the contents of a label index: 1, the count, and the references of values, each in four bytes
unfoldable pub label_index_done : ℕ → List ℕ → Result (Unit {0}) ReadFault
label_index_done limit bytes = do
  rest ← fixed 1 bytes
  count ← four rest
  after ← rest_of (times (four_below limit) count.0 count.1)
  nothing_left after

-- a byte that is this one; the result is the bytes after it
unfoldable pub marked : ℕ → List ℕ → Result (List ℕ) ReadFault
marked mark [] = Err BadSection
marked mark (b ∷ rest) = if b == mark then Ok rest else Err BadSection

-- an entry of the label offset table: the byte 1, a name, and the offset of its label index
unfoldable pub label_entry_field : Field (Text × ℕ)
label_entry_field bytes = do
  rest ← marked 1 bytes
  name ← text_field rest
  offset ← uvarint_field name.1
  Ok ((name.0, offset.0), offset.1)

-- an entry of the postings offset table: the byte 2, a name, a value, and the offset of the postings
unfoldable pub postings_entry_field : Field (Label × ℕ)
postings_entry_field bytes = do
  rest ← marked 2 bytes
  name ← text_field rest
  value ← text_field name.1
  offset ← uvarint_field value.1
  Ok ((record { name = name.0; value = value.0 }, offset.0), offset.1)

-- ---- contents that are checked but not kept

-- the bytes are the contents of postings: the count, and the ids in any order, each in four bytes
unfoldable pub postings_done : List ℕ → Result (Unit {0}) ReadFault
postings_done bytes = do
  count ← four bytes
  after ← rest_of (times four count.0 count.1)
  nothing_left after

-- the bytes are the contents of a label offset table: the count in four bytes, and the entries
unfoldable pub label_table_done : List ℕ → Result (Unit {0}) ReadFault
label_table_done bytes = do
  count ← four bytes
  after ← rest_of (times label_entry_field count.0 count.1)
  nothing_left after

-- the bytes are the contents of a postings offset table: the count in four bytes, and the entries
unfoldable pub postings_table_done : List ℕ → Result (Unit {0}) ReadFault
postings_table_done bytes = do
  count ← four bytes
  after ← rest_of (times postings_entry_field count.0 count.1)
  nothing_left after
