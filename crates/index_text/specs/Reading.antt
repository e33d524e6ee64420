-- The steps of reading an index: the rows, or the first fault.
use Rattle.std.specs.Prelude.{◌≡◌, ℕ, zero, suc, ◌+◌, ◌-◌, ◌==◌, ◌&&◌, not, nat_le, Bool, List, [], ◌∷◌, length, map, take, drop, get_or, Result, Ok, Err}
use Rattle.std.specs.List.{list_any}
use Rattle.hw_bytes.specs.Writing.{big_number}
use Rattle.hw_bytes.specs.Reading.{uvarint_at}
use Rattle.index_text.specs.declared.fault.ReadFault.{ReadFault}
use Rattle.index_text.specs.declared.fault.ReadFault.TheVariants.{BadMagic, BadVersion, BadToc, BadSum, BadSection, NotCanonical, Memory}
use Rattle.wal_record.specs.declared.labels.Label.{Label}
use Rattle.index_text.specs.declared.row.IndexRow.{IndexRow}
use Rattle.index_text.specs.declared.toc.Toc.{Toc}
use Rattle.index_text.specs.Gives.{◌>>=◌, nothing_left, or_bad, must}
use Rattle.index_text.specs.Layout.{Text, number_at, is_number, sums, padding}
use Rattle.index_text.specs.Rows.{IsIndex}
use Rattle.index_text.specs.Fields.{Field, whole, Stored, symbols_field, series_field, label_index_done, postings_done, label_table_done, postings_table_done}

-- ---- steps 1 to 3: the header and the table of contents

-- the header: the magic number and the version
unfoldable pub head_of : List ℕ → Result (Unit {0}) ReadFault
head_of bytes = do
  magic ← must (is_number (number_at 4 bytes) 0xBAAAD700) BadMagic
  must (is_number (number_at 1 (drop 4 bytes)) 2) BadVersion

-- the offsets are in the order of the sections
abbrev pub are_places : Toc → ℕ → Bool
are_places t end =
    t.symbols == 5 && nat_le t.symbols t.series && nat_le t.series t.label_indices && nat_le t.label_indices t.postings
    && nat_le t.postings t.label_table && nat_le t.label_table t.postings_table && nat_le t.postings_table end

-- the six offsets of the table of contents
unfoldable pub places_of : List ℕ → Toc
places_of bytes = record {
  symbols = big_number 8 bytes;
  series = big_number 8 (drop 8 bytes);
  label_indices = big_number 8 (drop 16 bytes);
  label_table = big_number 8 (drop 24 bytes);
  postings = big_number 8 (drop 32 bytes);
  postings_table = big_number 8 (drop 40 bytes);
}

-- the table of contents in the last 52 bytes
unfoldable pub toc_of : List ℕ → Result Toc ReadFault
toc_of bytes =
    let end = length bytes - 52 in
    do
      long ← must (nat_le 57 (length bytes)) BadToc
      sum ← must (sums 48 (drop end bytes)) BadToc
      order ← must (are_places (places_of (drop end bytes)) end) BadToc
      Ok (places_of (drop end bytes))

-- the table of contents, after the header was checked
abbrev pub front_of : List ℕ → Result Toc ReadFault
front_of bytes = do
  head ← head_of bytes
  toc_of bytes

-- ---- step 4: an element

-- the bytes after the zeros that align an element at this offset
unfoldable pub aligned_at : ℕ → ℕ → List ℕ → Result (List ℕ) ReadFault
aligned_at align at bytes =
    let n = padding align at in
    do
      zeros ← must (nat_le n (length bytes) && not (list_any (λ b. not (b == 0)) (take n bytes))) BadSection
      Ok (drop n bytes)

-- the contents of this length before their checksum, and the bytes after it
unfoldable pub summed_at : ℕ → List ℕ → Result (List ℕ × List ℕ) ReadFault
summed_at len bytes = do
  within ← must (nat_le (len + 4) (length bytes)) BadSection
  sum ← must (sums len bytes) BadSum
  Ok (take len bytes, drop 4 (drop len bytes))

-- an element whose length has four bytes: its contents, and the bytes after it
unfoldable pub framed_at : List ℕ → Result (List ℕ × List ℕ) ReadFault
framed_at bytes = do
  len ← or_bad (number_at 4 bytes)
  summed_at len (drop 4 bytes)

-- an element whose length is a uvarint: its contents, and the bytes after it
unfoldable pub counted_at : List ℕ → Result (List ℕ × List ℕ) ReadFault
counted_at bytes = do
  len ← or_bad (uvarint_at bytes)
  summed_at len.0 (drop len.1 bytes)

-- ---- step 4: sections

-- An element is read from the rest of a section. Reading one gives its value and the bytes after it.
abbrev pub Element : Type 0 → Type 0
Element X = List ℕ → Result (X × List ℕ) ReadFault

-- the value of an element's contents, and the bytes after the element
abbrev pub filled : {X : Type 0} → Field X → List ℕ × List ℕ → Result (X × List ℕ) ReadFault
filled field x = do
  v ← whole field x.0
  Ok (v, x.1)

-- a series of a section that ends at this offset
unfoldable pub series_element_at : ℕ → ℕ → Element Stored
series_element_at limit end bytes = do
  start ← aligned_at 16 (end - length bytes) bytes
  contents ← counted_at start
  filled (series_field limit) contents

-- elements up to the end, in at most as many steps as there are bytes: each element takes a byte at least
unfoldable pub elements : {X : Type 0} → Element X → ℕ → List ℕ → Result (List X) ReadFault
elements element zero bytes = Ok []
elements element (suc k) [] = Ok []
elements element (suc k) (b ∷ more) = do
  x ← element (b ∷ more)
  xs ← elements element k x.1
  Ok (x.0 ∷ xs)

-- a section of elements
abbrev pub all_elements : {X : Type 0} → Element X → List ℕ → Result (List X) ReadFault
all_elements element bytes = elements element (length bytes) bytes

-- ---- step 4: sections whose elements are not kept

-- the bytes after an element, after its contents were checked
unfoldable pub framed_done : (List ℕ → Result (Unit {0}) ReadFault) → ℕ → List ℕ → Result (List ℕ) ReadFault
framed_done done end bytes = do
  start ← aligned_at 4 (end - length bytes) bytes
  contents ← framed_at start
  passed ← done contents.0
  Ok contents.1

-- checked elements up to the end, in at most as many steps as there are bytes
unfoldable pub elements_done : (List ℕ → Result (List ℕ) ReadFault) → ℕ → List ℕ → Result (Unit {0}) ReadFault
elements_done element zero bytes = Ok tt
elements_done element (suc k) [] = Ok tt
elements_done element (suc k) (b ∷ more) = do
  rest ← element (b ∷ more)
  elements_done element k rest

-- a section that is one element, which is checked but not kept
unfoldable pub only_done : (List ℕ → Result (Unit {0}) ReadFault) → List ℕ → Result (Unit {0}) ReadFault
only_done done bytes = do
  contents ← framed_at bytes
  passed ← done contents.0
  nothing_left contents.1

-- a section that is one element
unfoldable pub only_element : {X : Type 0} → Field X → List ℕ → Result X ReadFault
only_element field bytes = do
  contents ← framed_at bytes
  x ← filled field contents
  rest ← must (length x.1 == 0) BadSection
  Ok x.0

-- ---- the whole

-- the bytes between two offsets
abbrev pub between : ℕ → ℕ → List ℕ → List ℕ
between from to bytes = take (to - from) (drop from bytes)

-- the label with these references of its name and value
abbrev pub label_at : List Text → ℕ × ℕ → Label
label_at table p = record { name = get_or table p.0 []; value = get_or table p.1 [] }

-- the labels with these references
abbrev pub labels_at : List Text → List (ℕ × ℕ) → List Label
labels_at table references = map (label_at table) references

-- the row of a stored series
abbrev pub row_of : List Text → Stored → IndexRow
row_of table s = record { labels = labels_at table s.labels; chunks = s.chunks }

-- The symbols and the stored series, after steps 1 to 4.
unfoldable pub stored_in : List ℕ → Result (List Text × List Stored) ReadFault
stored_in bytes =
    let end = length bytes - 52 in
    do
      toc ← front_of bytes
      table ← only_element symbols_field (between toc.symbols toc.series bytes)
      stored ← all_elements (series_element_at (length table) toc.label_indices) (between toc.series toc.label_indices bytes)
      label_indices ← elements_done (framed_done (label_index_done (length table)) toc.postings) (length (between toc.label_indices toc.postings bytes)) (between toc.label_indices toc.postings bytes)
      postings ← elements_done (framed_done postings_done toc.label_table) (length (between toc.postings toc.label_table bytes)) (between toc.postings toc.label_table bytes)
      label_table ← only_done label_table_done (between toc.label_table toc.postings_table bytes)
      postings_table ← only_done postings_table_done (between toc.postings_table end bytes)
      Ok (table, stored)

-- The rows of the symbols and the stored series.
unfoldable pub rows_in : List ℕ → Result (List IndexRow) ReadFault
rows_in bytes = do
  read ← stored_in bytes
  Ok (map (row_of read.0) read.1)

-- This is the fault of reading the bytes. A fault of steps 1 to 4 is the one that they give. Step 5 fails with `NotCanonical` if the bytes
-- are not the index of the rows that were read.
abbrev pub Answers : List ℕ → ReadFault → Type 0
Answers bytes Memory = Unit {0}
Answers bytes NotCanonical = (rows : List IndexRow) × (rows_in bytes ≡ Ok rows) × (IsIndex bytes rows → ⊥)
Answers bytes e = rows_in bytes ≡ Err e
