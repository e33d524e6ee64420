-- The text of an index. An element is a function of its rows and of the lists that it refers to: symbols, ids or offsets. The last part
-- puts these lists in.
use Rattle.std.specs.Prelude.{ℕ, ℤ, ◌+◌, ◌-◌, ◌/◌, ◌%◌, ◌^◌, ◌-ℤ◌, Bool, List, [], ◌∷◌, ◌++◌, length, map, filter, unsigned_abs}
use Rattle.std.specs.List.{flat_map, list_any, zip}
use Rattle.std.specs.Int.{w64, cast_signed}
use Rattle.std.specs.Ordering.{is_eq}
use Rattle.hw_bytes.specs.Writing.{big_bytes}
use Rattle.hw_bytes.specs.Writing.{uvarint, varint, text}
use Rattle.wal_record.specs.declared.labels.Label.{Label}
use Rattle.wal_record.specs.Labels.{compare_label, label}
use Rattle.index_text.specs.declared.row.ChunkMeta.{ChunkMeta}
use Rattle.index_text.specs.declared.row.IndexRow.{IndexRow}
use Rattle.index_text.specs.Groups.{keys, members}
use Rattle.index_text.specs.Sets.{ascending, rank, text_cmp}
use Rattle.index_text.specs.Layout.{Text, sum_text, framed, counted, put, put_all, places}

-- ---- labels and symbols

-- the distinct labels of rows, by name and then by value
unfoldable pub pairs : List IndexRow → List Label
pairs rows = ascending compare_label (flat_map (λ (r : IndexRow). r.labels) rows)

-- the labels of rows, each with the index of its row, where the first row has index i
abbrev pub labels_from : ℕ → List IndexRow → List (Label × ℕ)
labels_from i [] = []
labels_from i (r ∷ rs) = map (λ l. (l, i)) r.labels ++ labels_from (i + 1) rs

-- the distinct names of labels, ascending
abbrev pub names_in : List Label → List Text
names_in ls = keys (λ (p : Label). p.name) text_cmp ls

-- the distinct names of the labels of rows, ascending
unfoldable pub names : List IndexRow → List Text
names rows = names_in (pairs rows)

-- the symbols of rows: the distinct names and values, by their bytes
unfoldable pub symbols : List IndexRow → List Text
symbols rows = ascending text_cmp (flat_map (λ (p : Label). p.name ∷ p.value ∷ []) (pairs rows))

-- ---- elements

-- the contents of the symbols: the count in four bytes, and the texts
unfoldable pub symbols_body : List Text → Text
symbols_body table = big_bytes 4 (length table) ++ flat_map text table

-- the difference of two references modulo 2^64, as a signed number
abbrev pub reference_step : ℕ → ℕ → ℤ
reference_step old new = cast_signed w64 ((new + (2 ^ 64 - old)) % 2 ^ 64)

-- a chunk after another: the gap between the two, its span, and the step of the references
unfoldable pub next_chunk_text : ChunkMeta → ChunkMeta → Text
next_chunk_text last c =
    uvarint (unsigned_abs (c.min_time -ℤ last.max_time)) ++ uvarint (unsigned_abs (c.max_time -ℤ c.min_time)) ++ varint (reference_step last.reference c.reference)

-- the chunks after another
unfoldable pub later_chunks : ChunkMeta → List ChunkMeta → Text
later_chunks last [] = []
later_chunks last (c ∷ cs) = next_chunk_text last c ++ later_chunks c cs

-- the first chunk of a series: first time, span to the last time, reference
unfoldable pub first_chunk_text : ChunkMeta → Text
first_chunk_text c = varint c.min_time ++ uvarint (unsigned_abs (c.max_time -ℤ c.min_time)) ++ uvarint c.reference

-- the chunks of a series
unfoldable pub chunks_text : List ChunkMeta → Text
chunks_text [] = []
chunks_text (c ∷ cs) = first_chunk_text c ++ later_chunks c cs

-- the references of the name and the value of a label: a reference is the rank among the symbols, as a uvarint
abbrev pub label_refs : List Text → Label → Text
label_refs table p = uvarint (rank text_cmp p.name table) ++ uvarint (rank text_cmp p.value table)

-- the contents of a series: the count of its labels, their references, the count of its chunks, the chunks
unfoldable pub series_body : List Text → IndexRow → Text
series_body table r =
    uvarint (length r.labels) ++ flat_map (label_refs table) r.labels ++ uvarint (length r.chunks) ++ chunks_text r.chunks

-- the values that a name has among labels
abbrev pub values_of : List Label → Text → List Text
values_of ps name = map (λ (p : Label). p.value) (members (λ (p : Label). p.name) text_cmp ps name)

-- the contents of a label index: 1, the count, and the references of the values, each in four bytes
unfoldable pub label_index_body : List Text → List Text → Text
label_index_body table values = big_bytes 4 1 ++ big_bytes 4 (length values) ++ flat_map (λ v. big_bytes 4 (rank text_cmp v table)) values

-- the contents of postings: the count and the ids, each in four bytes
unfoldable pub postings_body : List ℕ → Text
postings_body ids = big_bytes 4 (length ids) ++ flat_map (big_bytes 4) ids

-- an entry of the label offset table: the byte 1, the name, and the offset of its label index
abbrev pub label_entry : Text × ℕ → Text
label_entry x = 1 ∷ text x.0 ++ uvarint x.1

-- the contents of the label offset table: the count in four bytes, and the entries
unfoldable pub label_table_body : List (Text × ℕ) → Text
label_table_body entries = big_bytes 4 (length entries) ++ flat_map label_entry entries

-- an entry of the postings offset table: the byte 2, the name, the value, and the offset of the postings
abbrev pub postings_entry : Label × ℕ → Text
postings_entry x = 2 ∷ text x.0.name ++ text x.0.value ++ uvarint x.1

-- the contents of the postings offset table: the count in four bytes, and the entries
unfoldable pub postings_table_body : List (Label × ℕ) → Text
postings_table_body entries = big_bytes 4 (length entries) ++ flat_map postings_entry entries

-- whether the row has the label
abbrev pub has_pair : Label → IndexRow → Bool
has_pair p r = list_any (λ q. is_eq (compare_label p q)) r.labels

-- the label with empty name and value, which stands for all series
abbrev pub everything : Label
everything = label [] []

-- ---- the whole

-- the magic number
abbrev pub magic : Text
magic = 0xBA ∷ 0xAA ∷ 0xD7 ∷ 0x00 ∷ []

-- the header: the magic number and the version
abbrev pub head_text : Text
head_text = magic ++ 2 ∷ []

-- the text up to the end of the symbols
unfoldable pub to_symbols : List IndexRow → Text
to_symbols rows = put 1 head_text (framed (symbols_body (symbols rows)))

-- the series of rows
abbrev pub series_elements : List IndexRow → List Text
series_elements rows = map (λ r. counted (series_body (symbols rows) r)) rows

-- the text up to the end of the series
unfoldable pub to_series : List IndexRow → Text
to_series rows = put_all 16 (to_symbols rows) (series_elements rows)

-- the ids of the series of rows: the offset of each series, divided by 16
unfoldable pub series_ids : List IndexRow → List ℕ
series_ids rows = map (λ n. n / 16) (places 16 (to_symbols rows) (series_elements rows))

-- the ids of the rows that have the label
abbrev pub ids_with : List IndexRow → Label → List ℕ
ids_with rows p = map (λ (x : ℕ × IndexRow). x.0) (filter (λ (x : ℕ × IndexRow). has_pair p x.1) (zip (series_ids rows) rows))

-- a label index for each name of labels
abbrev pub label_indices_of : List Text → List Label → List Text
label_indices_of table ps = map (λ name. framed (label_index_body table (values_of ps name))) (names_in ps)

-- the label indices of rows, one for each name
unfoldable pub label_indices : List IndexRow → List Text
label_indices rows = label_indices_of (symbols rows) (pairs rows)

-- the text up to the end of the label indices
unfoldable pub to_label_indices : List IndexRow → Text
to_label_indices rows = put_all 4 (to_series rows) (label_indices rows)

-- the postings of all series, and then of each label
unfoldable pub postings : List IndexRow → List Text
postings rows = framed (postings_body (series_ids rows)) ∷ map (λ p. framed (postings_body (ids_with rows p))) (pairs rows)

-- the text up to the end of the postings
unfoldable pub to_postings : List IndexRow → Text
to_postings rows = put_all 4 (to_label_indices rows) (postings rows)

-- each name with the offset of its label index
abbrev pub label_entries : List IndexRow → List (Text × ℕ)
label_entries rows = zip (names rows) (places 4 (to_series rows) (label_indices rows))

-- each label with the offset of its postings, that of all series first
abbrev pub postings_entries : List IndexRow → List (Label × ℕ)
postings_entries rows = zip (everything ∷ pairs rows) (places 4 (to_label_indices rows) (postings rows))

-- the text up to the end of the label offset table
unfoldable pub to_label_table : List IndexRow → Text
to_label_table rows = put 1 (to_postings rows) (framed (label_table_body (label_entries rows)))

-- the text up to the end of the postings offset table
unfoldable pub to_postings_table : List IndexRow → Text
to_postings_table rows = put 1 (to_label_table rows) (framed (postings_table_body (postings_entries rows)))

-- six offsets of eight bytes
abbrev pub toc_text : ℕ → ℕ → ℕ → ℕ → ℕ → ℕ → Text
toc_text a b c d e f = big_bytes 8 a ++ big_bytes 8 b ++ big_bytes 8 c ++ big_bytes 8 d ++ big_bytes 8 e ++ big_bytes 8 f

-- the offsets of the sections, each the length of the text before it: symbols, series, label indices, label offset table, postings,
-- postings offset table
unfoldable pub toc : List IndexRow → Text
toc rows =
    toc_text (length head_text) (length (to_symbols rows)) (length (to_series rows)) (length (to_postings rows)) (length (to_label_indices rows)) (length (to_label_table rows))

-- The text of the index of rows.
unfoldable pub index_text : List IndexRow → Text
index_text rows = to_postings_table rows ++ toc rows ++ sum_text (toc rows)
