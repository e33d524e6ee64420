-- The index of the worked block, written and read by computation.
use Rattle.std.proofs.Common.{◌≡◌, ℕ, List, [], ◌∷◌, refl, take, set, Ok, Err}
use Rattle.std.specs.Prelude.{pos}
use Rattle.hw_bytes.specs.Checksum.{crc32c, divided, divided_times}
use Rattle.hw_bytes.specs.Writing.{uvarint, uvarint_in}
use Rattle.hw_bytes.specs.Reading.{uvarint_at, end_at, text_at}
use Rattle.index_text.specs.declared.fault.ReadFault.TheVariants.{BadMagic, BadVersion, BadToc, BadSum, BadSection}
use Rattle.index_text.specs.declared.row.IndexRow.{IndexRow}
use Rattle.index_text.specs.Layout.{Text, sum_text}
use Rattle.index_text.specs.Index.{pairs, names, symbols, label_indices, postings, symbols_body, next_chunk_text, first_chunk_text, later_chunks, chunks_text, series_body, label_index_body, postings_body, label_table_body, postings_table_body, to_symbols, to_series, series_ids, to_label_indices, to_postings, to_label_table, to_postings_table, toc, index_text}
use Rattle.index_text.specs.Fields.{four, uvarint_field, varint_field, text_field, times, reference_field, pair_field, first_chunk, next_chunk, next_chunks, chunks_field, symbols_field, series_field, four_below, fixed, label_index_done, postings_done, marked, label_entry_field, label_table_done, postings_entry_field, postings_table_done}
use Rattle.index_text.specs.Reading.{head_of, places_of, toc_of, aligned_at, summed_at, framed_at, counted_at, series_element_at, elements, framed_done, elements_done, only_done, only_element, stored_in, rows_in}

abbrev job : List ℕ
job = 106 ∷ 111 ∷ 98 ∷ []

abbrev rows : List IndexRow
rows =
    (record { labels = (record { name = job; value = 97 ∷ [] }) ∷ []; chunks = (record { min_time = pos 2000; max_time = pos 2000; reference = 8 }) ∷ [] })
    ∷ (record { labels = (record { name = job; value = 98 ∷ [] }) ∷ []; chunks = (record { min_time = pos 1000; max_time = pos 3000; reference = 26 }) ∷ [] }) ∷ []

abbrev bytes : Text
bytes = 186 ∷ 170 ∷ 215 ∷ 0 ∷ 2 ∷ 0 ∷ 0 ∷ 0 ∷ 12 ∷ 0 ∷ 0 ∷ 0 ∷ 3 ∷ 1 ∷ 97 ∷ 1 ∷ 98 ∷ 3 ∷ 106 ∷ 111 ∷ 98 ∷ 51 ∷ 210 ∷ 85 ∷ 182 ∷ 0 ∷ 0 ∷ 0 ∷ 0 ∷ 0 ∷ 0 ∷ 0 ∷ 8 ∷ 1 ∷ 2 ∷ 0 ∷ 1 ∷ 160 ∷ 31 ∷ 0 ∷ 8 ∷ 30 ∷ 92 ∷ 91 ∷ 204 ∷ 0 ∷ 0 ∷ 0 ∷ 9 ∷ 1 ∷ 2 ∷ 1 ∷ 1 ∷ 208 ∷ 15 ∷ 208 ∷ 15 ∷ 26 ∷ 195 ∷ 32 ∷ 105 ∷ 195 ∷ 0 ∷ 0 ∷ 0 ∷ 0 ∷ 0 ∷ 16 ∷ 0 ∷ 0 ∷ 0 ∷ 1 ∷ 0 ∷ 0 ∷ 0 ∷ 2 ∷ 0 ∷ 0 ∷ 0 ∷ 0 ∷ 0 ∷ 0 ∷ 0 ∷ 1 ∷ 109 ∷ 88 ∷ 251 ∷ 237 ∷ 0 ∷ 0 ∷ 0 ∷ 12 ∷ 0 ∷ 0 ∷ 0 ∷ 2 ∷ 0 ∷ 0 ∷ 0 ∷ 2 ∷ 0 ∷ 0 ∷ 0 ∷ 3 ∷ 165 ∷ 131 ∷ 67 ∷ 144 ∷ 0 ∷ 0 ∷ 0 ∷ 8 ∷ 0 ∷ 0 ∷ 0 ∷ 1 ∷ 0 ∷ 0 ∷ 0 ∷ 2 ∷ 85 ∷ 2 ∷ 173 ∷ 209 ∷ 0 ∷ 0 ∷ 0 ∷ 8 ∷ 0 ∷ 0 ∷ 0 ∷ 1 ∷ 0 ∷ 0 ∷ 0 ∷ 3 ∷ 167 ∷ 105 ∷ 46 ∷ 210 ∷ 0 ∷ 0 ∷ 0 ∷ 10 ∷ 0 ∷ 0 ∷ 0 ∷ 1 ∷ 1 ∷ 3 ∷ 106 ∷ 111 ∷ 98 ∷ 64 ∷ 149 ∷ 95 ∷ 37 ∷ 112 ∷ 0 ∷ 0 ∷ 0 ∷ 24 ∷ 0 ∷ 0 ∷ 0 ∷ 3 ∷ 2 ∷ 0 ∷ 0 ∷ 88 ∷ 2 ∷ 3 ∷ 106 ∷ 111 ∷ 98 ∷ 1 ∷ 97 ∷ 108 ∷ 2 ∷ 3 ∷ 106 ∷ 111 ∷ 98 ∷ 1 ∷ 98 ∷ 124 ∷ 83 ∷ 196 ∷ 14 ∷ 200 ∷ 0 ∷ 0 ∷ 0 ∷ 0 ∷ 0 ∷ 0 ∷ 0 ∷ 5 ∷ 0 ∷ 0 ∷ 0 ∷ 0 ∷ 0 ∷ 0 ∷ 0 ∷ 25 ∷ 0 ∷ 0 ∷ 0 ∷ 0 ∷ 0 ∷ 0 ∷ 0 ∷ 62 ∷ 0 ∷ 0 ∷ 0 ∷ 0 ∷ 0 ∷ 0 ∷ 0 ∷ 140 ∷ 0 ∷ 0 ∷ 0 ∷ 0 ∷ 0 ∷ 0 ∷ 0 ∷ 88 ∷ 0 ∷ 0 ∷ 0 ∷ 0 ∷ 0 ∷ 0 ∷ 0 ∷ 158 ∷ 53 ∷ 176 ∷ 41 ∷ 118 ∷ []

written : index_text rows ≡ bytes
unfolding sum_text crc32c divided divided_times uvarint uvarint_in pairs names symbols label_indices postings symbols_body next_chunk_text first_chunk_text later_chunks chunks_text series_body label_index_body postings_body label_table_body postings_table_body to_symbols to_series series_ids to_label_indices to_postings to_label_table to_postings_table toc index_text
written = refl

reads : rows_in bytes ≡ Ok rows
unfolding crc32c divided divided_times uvarint_at end_at text_at four uvarint_field varint_field text_field times reference_field pair_field first_chunk next_chunk next_chunks chunks_field symbols_field series_field four_below fixed label_index_done postings_done marked label_entry_field label_table_done postings_entry_field postings_table_done head_of places_of toc_of aligned_at summed_at framed_at counted_at series_element_at elements framed_done elements_done only_done only_element stored_in rows_in
reads = refl

other_magic : rows_in (set bytes 0 0) ≡ Err BadMagic
unfolding crc32c divided divided_times uvarint_at end_at text_at four uvarint_field varint_field text_field times reference_field pair_field first_chunk next_chunk next_chunks chunks_field symbols_field series_field four_below fixed label_index_done postings_done marked label_entry_field label_table_done postings_entry_field postings_table_done head_of places_of toc_of aligned_at summed_at framed_at counted_at series_element_at elements framed_done elements_done only_done only_element stored_in rows_in
other_magic = refl

other_version : rows_in (set bytes 4 1) ≡ Err BadVersion
unfolding crc32c divided divided_times uvarint_at end_at text_at four uvarint_field varint_field text_field times reference_field pair_field first_chunk next_chunk next_chunks chunks_field symbols_field series_field four_below fixed label_index_done postings_done marked label_entry_field label_table_done postings_entry_field postings_table_done head_of places_of toc_of aligned_at summed_at framed_at counted_at series_element_at elements framed_done elements_done only_done only_element stored_in rows_in
other_version = refl

cut_short : rows_in (take 241 bytes) ≡ Err BadToc
unfolding crc32c divided divided_times uvarint_at end_at text_at four uvarint_field varint_field text_field times reference_field pair_field first_chunk next_chunk next_chunks chunks_field symbols_field series_field four_below fixed label_index_done postings_done marked label_entry_field label_table_done postings_entry_field postings_table_done head_of places_of toc_of aligned_at summed_at framed_at counted_at series_element_at elements framed_done elements_done only_done only_element stored_in rows_in
cut_short = refl

other_place : rows_in (set bytes 190 1) ≡ Err BadToc
unfolding crc32c divided divided_times uvarint_at end_at text_at four uvarint_field varint_field text_field times reference_field pair_field first_chunk next_chunk next_chunks chunks_field symbols_field series_field four_below fixed label_index_done postings_done marked label_entry_field label_table_done postings_entry_field postings_table_done head_of places_of toc_of aligned_at summed_at framed_at counted_at series_element_at elements framed_done elements_done only_done only_element stored_in rows_in
other_place = refl

other_text : rows_in (set bytes 14 98) ≡ Err BadSum
unfolding crc32c divided divided_times uvarint_at end_at text_at four uvarint_field varint_field text_field times reference_field pair_field first_chunk next_chunk next_chunks chunks_field symbols_field series_field four_below fixed label_index_done postings_done marked label_entry_field label_table_done postings_entry_field postings_table_done head_of places_of toc_of aligned_at summed_at framed_at counted_at series_element_at elements framed_done elements_done only_done only_element stored_in rows_in
other_text = refl

no_zero : rows_in (set bytes 25 1) ≡ Err BadSection
unfolding crc32c divided divided_times uvarint_at end_at text_at four uvarint_field varint_field text_field times reference_field pair_field first_chunk next_chunk next_chunks chunks_field symbols_field series_field four_below fixed label_index_done postings_done marked label_entry_field label_table_done postings_entry_field postings_table_done head_of places_of toc_of aligned_at summed_at framed_at counted_at series_element_at elements framed_done elements_done only_done only_element stored_in rows_in
no_zero = refl

large_count : rows_in (set (set (set (set (set (set (set (set bytes 9 255) 10 255) 11 255) 12 255) 21 254) 22 226) 23 19) 24 61) ≡ Err BadSection
unfolding crc32c divided divided_times uvarint_at end_at text_at four uvarint_field varint_field text_field times reference_field pair_field first_chunk next_chunk next_chunks chunks_field symbols_field series_field four_below fixed label_index_done postings_done marked label_entry_field label_table_done postings_entry_field postings_table_done head_of places_of toc_of aligned_at summed_at framed_at counted_at series_element_at elements framed_done elements_done only_done only_element stored_in rows_in
large_count = refl

-- ids exchanged: the rows are these, so the fault is that the text is another
exchanged : rows_in (set (set (set (set (set (set bytes 99 3) 103 2) 104 111) 105 249) 106 175) 107 63) ≡ Ok rows
unfolding crc32c divided divided_times uvarint_at end_at text_at four uvarint_field varint_field text_field times reference_field pair_field first_chunk next_chunk next_chunks chunks_field symbols_field series_field four_below fixed label_index_done postings_done marked label_entry_field label_table_done postings_entry_field postings_table_done head_of places_of toc_of aligned_at summed_at framed_at counted_at series_element_at elements framed_done elements_done only_done only_element stored_in rows_in
exchanged = refl
