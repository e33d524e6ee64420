-- None of the steps before the last answers that an index is not canonical.
use Rattle.std.specs.Prelude.{◌==◌, ◌&&◌, not, nat_lt, nat_le, if◌then◌else◌}
use Rattle.std.proofs.Common.{◌≡◌, ℕ, zero, suc, ◌+◌, ◌-◌, Bool, true, false, List, [], ◌∷◌, length, take, drop, Option, Some, None, Result, Ok, Err, ap}
use Rattle.index_text.specs.declared.fault.ReadFault.{ReadFault}
use Rattle.index_text.specs.declared.fault.ReadFault.TheVariants.{BadMagic, BadVersion, BadToc, BadSum, BadSection, NotCanonical}
use Rattle.index_text.specs.declared.row.ChunkMeta.{ChunkMeta}
use Rattle.index_text.specs.Gives.{◌>>=◌, must, nothing_left, or_bad, rest_of}
use Rattle.index_text.specs.Fields.{Field, chunks_field, first_chunk, fixed, four, four_below, label_entry_field, label_index_done, label_table_done, later, marked, next_chunk, next_chunks, pair_field, postings_done, postings_entry_field, postings_table_done, reference_field, series_field, symbols_field, text_field, times, uvarint_field, varint_field, whole}
use Rattle.std.specs.List.{list_any}
use Rattle.index_text.specs.Layout.{is_number, number_at, padding, sums}
use Rattle.index_text.specs.Reading.{all_elements, are_places, places_of, aligned_at, counted_at, elements, elements_done, filled, framed_at, framed_done, front_of, head_of, only_done, only_element, series_element_at, stored_in, summed_at, toc_of}

pub record IsEarly {X : Type 0} (r : Result X ReadFault) : Type 0 where
  pub early : r ≡ Err NotCanonical → ⊥

fine : {X : Type 0} (x : X) → IsEarly (Ok x)
fine x = record { early = λ e. absurd cc }

abbrev failed : (X : Type 0) → ReadFault → Result X ReadFault
failed X e = Err e

fault_is : {X : Type 0} (e f : ReadFault) → failed X e ≡ failed X f → e ≡ f
fault_is e f p = cc

bind : {A B : Type 0} (r : Result A ReadFault) (f : A → Result B ReadFault) → IsEarly r → ((x : A) → IsEarly (f x)) → IsEarly (r >>= f)
bind (Ok x) f h k = k x
bind (Err e) f h k = record { early = λ p. h.early (ap (λ x. Err x) (fault_is e NotCanonical p)) }

section : {X : Type 0} → IsEarly {X = X} (Err BadSection)
section = record { early = λ e. absurd cc }

test : {X : Type 0} (b : Bool) (x : X) → IsEarly (if b then Ok x else Err BadSection)
test true x = fine x
test false x = section

bad : {X : Type 0} (o : Option X) → IsEarly (or_bad o)
bad None = section
bad (Some x) = fine x

musts : (b : Bool) (e : ReadFault) → (e ≡ NotCanonical → ⊥) → IsEarly (must b e)
musts true e h = fine tt
musts false e h = record { early = λ p. h (fault_is e NotCanonical p) }

-- ---- fields

four-early : (bytes : List ℕ) → IsEarly (four bytes)
unfolding four
four-early bytes = bind (or_bad _) _ (bad _) (λ n. fine _)

uvarint-early : (bytes : List ℕ) → IsEarly (uvarint_field bytes)
unfolding uvarint_field
uvarint-early bytes = bind (or_bad _) _ (bad _) (λ n. fine _)

varint-early : (bytes : List ℕ) → IsEarly (varint_field bytes)
unfolding varint_field
varint-early bytes = bind (or_bad _) _ (bad _) (λ n. fine _)

text-early : (bytes : List ℕ) → IsEarly (text_field bytes)
unfolding text_field
text-early bytes = bind (or_bad _) _ (bad _) (λ n. fine _)

times-early : {X : Type 0} (field : Field X) → ((bytes : List ℕ) → IsEarly (field bytes)) → (n : ℕ) (bytes : List ℕ) → IsEarly (times field n bytes)
unfolding times
times-early field h zero bytes = fine _
times-early field h (suc n) bytes = bind (field bytes) _ (h bytes) (λ first. bind (times field n first.1) _ (times-early field h n first.1) (λ others. fine _))

whole-early : {X : Type 0} (field : Field X) → ((bytes : List ℕ) → IsEarly (field bytes)) → (bytes : List ℕ) → IsEarly (whole field bytes)
whole-early field h bytes = bind (field bytes) _ (h bytes) (λ x. test (length x.1 == 0) x.0)

reference-early : (limit : ℕ) (bytes : List ℕ) → IsEarly (reference_field limit bytes)
unfolding reference_field
reference-early limit bytes = bind (uvarint_field bytes) _ (uvarint-early bytes) (λ x. test (nat_lt x.0 limit) x)

pair-early : (limit : ℕ) (bytes : List ℕ) → IsEarly (pair_field limit bytes)
unfolding pair_field
pair-early limit bytes = bind (reference_field limit bytes) _ (reference-early limit bytes) (λ name. bind (reference_field limit name.1) _ (reference-early limit name.1) (λ value. fine _))

first-early : (bytes : List ℕ) → IsEarly (first_chunk bytes)
unfolding first_chunk
first-early bytes =
    bind (varint_field bytes) _ (varint-early bytes) (λ min. bind (uvarint_field min.1) _ (uvarint-early min.1) (λ span. bind (later min.0 span.0) _ (test _ _) (λ max. bind (uvarint_field span.1) _ (uvarint-early span.1) (λ reference. fine _))))

next-early : (last : ChunkMeta) (bytes : List ℕ) → IsEarly (next_chunk last bytes)
unfolding next_chunk
next-early last bytes =
    bind (uvarint_field bytes) _ (uvarint-early bytes) (λ gap. bind (later last.max_time gap.0) _ (test _ _) (λ min. bind (uvarint_field gap.1) _ (uvarint-early gap.1) (λ span.
    bind (later min span.0) _ (test _ _) (λ max. bind (varint_field span.1) _ (varint-early span.1) (λ step. fine _)))))

next_chunks-early : (n : ℕ) (last : ChunkMeta) (bytes : List ℕ) → IsEarly (next_chunks n last bytes)
unfolding next_chunks
next_chunks-early zero last bytes = fine _
next_chunks-early (suc n) last bytes = bind (next_chunk last bytes) _ (next-early last bytes) (λ c. bind (next_chunks n c.0 c.1) _ (next_chunks-early n c.0 c.1) (λ cs. fine _))

chunks-early : (n : ℕ) (bytes : List ℕ) → IsEarly (chunks_field n bytes)
unfolding chunks_field
chunks-early zero bytes = fine _
chunks-early (suc n) bytes = bind (first_chunk bytes) _ (first-early bytes) (λ c. bind (next_chunks n c.0 c.1) _ (next_chunks-early n c.0 c.1) (λ cs. fine _))

symbols-early : (bytes : List ℕ) → IsEarly (symbols_field bytes)
unfolding symbols_field
symbols-early bytes = bind (four bytes) _ (four-early bytes) (λ count. times-early text_field text-early count.0 count.1)

series-early : (limit : ℕ) (bytes : List ℕ) → IsEarly (series_field limit bytes)
unfolding series_field
series-early limit bytes =
    bind (uvarint_field bytes) _ (uvarint-early bytes) (λ labels. bind (times (pair_field limit) labels.0 labels.1) _ (times-early (pair_field limit) (pair-early limit) labels.0 labels.1) (λ ls.
    bind (uvarint_field ls.1) _ (uvarint-early ls.1) (λ count. bind (chunks_field count.0 count.1) _ (chunks-early count.0 count.1) (λ cs. fine _))))

rest-early : {X : Type 0} (r : Result (X × List ℕ) ReadFault) → IsEarly r → IsEarly (rest_of r)
rest-early r h = bind r _ h (λ x. fine _)

nothing-early : (bytes : List ℕ) → IsEarly (nothing_left bytes)
nothing-early bytes = musts (length bytes == 0) BadSection (λ e. absurd cc)

below-early : (limit : ℕ) (bytes : List ℕ) → IsEarly (four_below limit bytes)
unfolding four_below
below-early limit bytes = bind (four bytes) _ (four-early bytes) (λ x. test (nat_lt x.0 limit) x)

fixed-early : (value : ℕ) (bytes : List ℕ) → IsEarly (fixed value bytes)
unfolding fixed
fixed-early value bytes = bind (four bytes) _ (four-early bytes) (λ x. test (x.0 == value) x.1)

marked-early : (mark : ℕ) (bytes : List ℕ) → IsEarly (marked mark bytes)
unfolding marked
marked-early mark [] = section
marked-early mark (b ∷ rest) = test (b == mark) rest

counted-early : {X : Type 0} (field : Field X) → ((bytes : List ℕ) → IsEarly (field bytes)) → (count : ℕ × List ℕ) → IsEarly (rest_of (times field count.0 count.1) >>= nothing_left)
counted-early field h count = bind (rest_of (times field count.0 count.1)) _ (rest-early (times field count.0 count.1) (times-early field h count.0 count.1)) nothing-early

label_index-early : (limit : ℕ) (bytes : List ℕ) → IsEarly (label_index_done limit bytes)
unfolding label_index_done
label_index-early limit bytes = bind (fixed 1 bytes) _ (fixed-early 1 bytes) (λ rest. bind (four rest) _ (four-early rest) (counted-early (four_below limit) (below-early limit)))

postings-early : (bytes : List ℕ) → IsEarly (postings_done bytes)
unfolding postings_done
postings-early bytes = bind (four bytes) _ (four-early bytes) (counted-early four four-early)

label_entry-early : (bytes : List ℕ) → IsEarly (label_entry_field bytes)
unfolding label_entry_field
label_entry-early bytes = bind (marked 1 bytes) _ (marked-early 1 bytes) (λ rest. bind (text_field rest) _ (text-early rest) (λ name. bind (uvarint_field name.1) _ (uvarint-early name.1) (λ offset. fine _)))

label_table-early : (bytes : List ℕ) → IsEarly (label_table_done bytes)
unfolding label_table_done
label_table-early bytes = bind (four bytes) _ (four-early bytes) (counted-early label_entry_field label_entry-early)

postings_entry-early : (bytes : List ℕ) → IsEarly (postings_entry_field bytes)
unfolding postings_entry_field
postings_entry-early bytes =
    bind (marked 2 bytes) _ (marked-early 2 bytes) (λ rest. bind (text_field rest) _ (text-early rest) (λ name. bind (text_field name.1) _ (text-early name.1) (λ value. bind (uvarint_field value.1) _ (uvarint-early value.1) (λ offset. fine _))))

postings_table-early : (bytes : List ℕ) → IsEarly (postings_table_done bytes)
unfolding postings_table_done
postings_table-early bytes = bind (four bytes) _ (four-early bytes) (counted-early postings_entry_field postings_entry-early)

-- ---- elements and sections

aligned-early : (align at : ℕ) (bytes : List ℕ) → IsEarly (aligned_at align at bytes)
unfolding aligned_at
aligned-early align at bytes =
    bind (must (nat_le (padding align at) (length bytes) && not (list_any (λ b. not (b == 0)) (take (padding align at) bytes))) BadSection) _ (musts (nat_le (padding align at) (length bytes) && not (list_any (λ b. not (b == 0)) (take (padding align at) bytes))) BadSection (λ e. absurd cc)) (λ zeros. fine (drop (padding align at) bytes))

summed-early : (len : ℕ) (bytes : List ℕ) → IsEarly (summed_at len bytes)
unfolding summed_at
summed-early len bytes =
    bind (must (nat_le (len + 4) (length bytes)) BadSection) _ (musts (nat_le (len + 4) (length bytes)) BadSection (λ e. absurd cc))
    (λ within. bind (must (sums len bytes) BadSum) _ (musts (sums len bytes) BadSum (λ e. absurd cc)) (λ sum. fine (take len bytes, drop 4 (drop len bytes))))

framed-early : (bytes : List ℕ) → IsEarly (framed_at bytes)
unfolding framed_at
framed-early bytes = bind (or_bad _) _ (bad _) (λ len. summed-early len (drop 4 bytes))

counted_at-early : (bytes : List ℕ) → IsEarly (counted_at bytes)
unfolding counted_at
counted_at-early bytes = bind (or_bad _) _ (bad _) (λ len. summed-early len.0 (drop len.1 bytes))

filled-early : {X : Type 0} (field : Field X) → ((bytes : List ℕ) → IsEarly (field bytes)) → (x : List ℕ × List ℕ) → IsEarly (filled field x)
filled-early field h x = bind (whole field x.0) _ (whole-early field h x.0) (λ v. fine _)

element-early : (limit end : ℕ) (bytes : List ℕ) → IsEarly (series_element_at limit end bytes)
unfolding series_element_at
element-early limit end bytes = bind (aligned_at 16 (end - length bytes) bytes) _ (aligned-early 16 (end - length bytes) bytes) (λ start. bind (counted_at start) _ (counted_at-early start) (filled-early (series_field limit) (series-early limit)))

elements-early : {X : Type 0} (element : List ℕ → Result (X × List ℕ) ReadFault) → ((bytes : List ℕ) → IsEarly (element bytes)) → (k : ℕ) (bytes : List ℕ) → IsEarly (elements element k bytes)
unfolding elements
elements-early element h zero bytes = fine _
elements-early element h (suc k) [] = fine _
elements-early element h (suc k) (b ∷ more) = bind (element (b ∷ more)) _ (h (b ∷ more)) (λ x. bind (elements element k x.1) _ (elements-early element h k x.1) (λ xs. fine _))

framed_done-early : (done : List ℕ → Result (Unit {0}) ReadFault) → ((bytes : List ℕ) → IsEarly (done bytes)) → (end : ℕ) (bytes : List ℕ) → IsEarly (framed_done done end bytes)
unfolding framed_done
framed_done-early done h end bytes =
    bind (aligned_at 4 (end - length bytes) bytes) _ (aligned-early 4 (end - length bytes) bytes) (λ start. bind (framed_at start) _ (framed-early start) (λ contents. bind (done contents.0) _ (h contents.0) (λ passed. fine _)))

elements_done-early : (element : List ℕ → Result (List ℕ) ReadFault) → ((bytes : List ℕ) → IsEarly (element bytes)) → (k : ℕ) (bytes : List ℕ) → IsEarly (elements_done element k bytes)
unfolding elements_done
elements_done-early element h zero bytes = fine _
elements_done-early element h (suc k) [] = fine _
elements_done-early element h (suc k) (b ∷ more) = bind (element (b ∷ more)) _ (h (b ∷ more)) (λ rest. elements_done-early element h k rest)

only_done-early : (done : List ℕ → Result (Unit {0}) ReadFault) → ((bytes : List ℕ) → IsEarly (done bytes)) → (bytes : List ℕ) → IsEarly (only_done done bytes)
unfolding only_done
only_done-early done h bytes = bind (framed_at bytes) _ (framed-early bytes) (λ contents. bind (done contents.0) _ (h contents.0) (λ passed. nothing-early contents.1))

only_element-early : {X : Type 0} (field : Field X) → ((bytes : List ℕ) → IsEarly (field bytes)) → (bytes : List ℕ) → IsEarly (only_element field bytes)
unfolding only_element
only_element-early field h bytes =
    bind (framed_at bytes) _ (framed-early bytes) (λ contents. bind (filled field contents) _ (filled-early field h contents) (λ x. bind (must (length x.1 == 0) BadSection) _ (musts (length x.1 == 0) BadSection (λ e. absurd cc)) (λ rest. fine _)))

head-early : (bytes : List ℕ) → IsEarly (head_of bytes)
unfolding head_of
head-early bytes =
    bind (must (is_number (number_at 4 bytes) 0xBAAAD700) BadMagic) _ (musts (is_number (number_at 4 bytes) 0xBAAAD700) BadMagic (λ e. absurd cc))
    (λ magic. musts (is_number (number_at 1 (drop 4 bytes)) 2) BadVersion (λ e. absurd cc))

toc-early : (bytes : List ℕ) → IsEarly (toc_of bytes)
unfolding toc_of
toc-early bytes =
    bind (must (nat_le 57 (length bytes)) BadToc) _ (musts (nat_le 57 (length bytes)) BadToc (λ e. absurd cc))
    (λ long. bind (must (sums 48 (drop (length bytes - 52) bytes)) BadToc) _ (musts (sums 48 (drop (length bytes - 52) bytes)) BadToc (λ e. absurd cc))
    (λ sum. bind (must (are_places (places_of (drop (length bytes - 52) bytes)) (length bytes - 52)) BadToc) _ (musts (are_places (places_of (drop (length bytes - 52) bytes)) (length bytes - 52)) BadToc (λ e. absurd cc))
    (λ order. fine (places_of (drop (length bytes - 52) bytes)))))

front-early : (bytes : List ℕ) → IsEarly (front_of bytes)
front-early bytes = bind (head_of bytes) _ (head-early bytes) (λ head. toc-early bytes)

pub stored-early : (bytes : List ℕ) → IsEarly (stored_in bytes)
unfolding stored_in
stored-early bytes =
    bind (front_of bytes) _ (front-early bytes) (λ toc.
    bind (only_element symbols_field _) _ (only_element-early symbols_field symbols-early _) (λ table.
    bind (all_elements (series_element_at (length table) toc.label_indices) _) _ (elements-early (series_element_at (length table) toc.label_indices) (element-early (length table) toc.label_indices) _ _) (λ stored.
    bind (elements_done (framed_done (label_index_done (length table)) toc.postings) _ _) _ (elements_done-early (framed_done (label_index_done (length table)) toc.postings) (framed_done-early (label_index_done (length table)) (label_index-early (length table)) toc.postings) _ _) (λ indices.
    bind (elements_done (framed_done postings_done toc.label_table) _ _) _ (elements_done-early (framed_done postings_done toc.label_table) (framed_done-early postings_done postings-early toc.label_table) _ _) (λ lists.
    bind (only_done label_table_done _) _ (only_done-early label_table_done label_table-early _) (λ names.
    bind (only_done postings_table_done _) _ (only_done-early postings_table_done postings_table-early _) (λ pairs. fine _)))))))
