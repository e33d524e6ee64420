use Rattle.std.proofs.Common.{rules, ◌≡◌, ◌<◌, ◌≤◌, ◌^◌, ℕ, Err, length, map, refl, ap, sym, subst, ◌∙◌, arith}
use Rattle.std.specs.List.{All}
use Rattle.index_text.specs.declared.ordering.RowLabel.{RowLabel}
use Rattle.wal_record.specs.Labels.{compare_label}
use Rattle.hw_bytes.specs.declared.write_fault.WriteFault.TheVariants.{TooLarge}
use Rattle.index_text.specs.declared.row.IndexRow.{IndexRow}
use Rattle.index_text.specs.Gives.{nows}
use Rattle.index_text.specs.Index.{label_entries, label_table_body, labels_from, pairs, postings_body, postings_entries, postings_table_body, series_body, series_ids, symbols, symbols_body, to_label_indices, to_label_table, to_postings, to_postings_table, to_series, to_symbols}
use Rattle.index_text.specs.Lent.{compare_row_label, label_of, label_place_of, name_place_of, row_label_of}
use Rattle.index_text.specs.Rows.{AreSmall, IsSmall}
use Rattle.index_text.specs.Sets.{IsAscending, ascending, text_cmp}
use Rattle.index_text.proofs.WriteLaws.{index_text_is, label_entries_is, length-ids, lists_small, names_small, small_lists, small_names, pairs_ascend, postings_entries_is, rows_ascend, series_ids_is, symbols_ascend, to_label_indices_is, to_label_table_is, to_postings_is, to_postings_table_is, to_series_is, to_symbols_is}
use Rattle.index_text.proofs.writing.put_sections.Goals as goal

pub put_series-requires : goal.put_series-requires
put_series-requires c =
    let t : nows c.as_slice-symbols.result.now ≡ symbols c.args.rows.now = ap nows c.as_slice-symbols.ensures.value ∙ c.requires.symbols in
    subst (IsAscending text_cmp) (sym t) (symbols_ascend c.args.rows.now)

pub put_label_indices-requires-clause-ascending : goal.put_label_indices-requires-clause-ascending
put_label_indices-requires-clause-ascending c =
    let t : nows c.as_slice-symbols.result.now ≡ symbols c.args.rows.now = ap nows c.as_slice-symbols.ensures.value ∙ c.requires.symbols in
    subst (IsAscending text_cmp) (sym t) (symbols_ascend c.args.rows.now)

pub put_label_indices-requires-clause-labels : goal.put_label_indices-requires-clause-labels
put_label_indices-requires-clause-labels c =
    let p : map label_of c.as_slice.result.now ≡ pairs c.args.rows.now = ap (map label_of) c.as_slice.ensures.value ∙ c.requires.pairs in
    subst (IsAscending compare_label) (sym p) (pairs_ascend c.args.rows.now)

pub put_postings-requires-clause-within : goal.put_postings-requires-clause-within
put_postings-requires-clause-within c =
    let t : nows c.as_slice-symbols.result.now ≡ symbols c.args.rows.now = ap nows c.as_slice-symbols.ensures.value ∙ c.requires.symbols in
    let o1 : c.put_symbols.new.out.items ≡ to_symbols c.args.rows.now = to_symbols_is c.args.rows.now (nows c.as_slice-symbols.result.now) c.args.out.now.items c.put_symbols.new.out.items t c.requires.head c.in_ok-put_symbols.ensures.text in
    let i : c.in_ok-ids.ids.items ≡ series_ids c.args.rows.now = series_ids_is c.args.rows.now (nows c.as_slice-symbols.result.now) c.put_symbols.new.out.items c.in_ok-ids.ids.items t o1 c.in_ok-ids.ensures.ids in
    let long : length c.as_slice-2.result.now ≡ length c.args.rows.now = ap length (c.as_slice-2.ensures.value ∙ i) ∙ length-ids c.args.rows.now in
    subst (λ ls. All (λ (l : RowLabel). l.row < length c.as_slice-2.result.now) ls) (sym c.as_slice-3.ensures.value) (subst (λ n. All (λ (l : RowLabel). l.row < n) c.args.contents.now.labels.items) (sym long) c.requires.within)

pub put_postings-requires-clause-ascending : goal.put_postings-requires-clause-ascending
put_postings-requires-clause-ascending c =
    let l : map row_label_of c.as_slice-3.result.now ≡ ascending compare_row_label (labels_from 0 c.args.rows.now) = ap (map row_label_of) c.as_slice-3.ensures.value ∙ c.requires.labels in
    subst (IsAscending compare_row_label) (sym l) (rows_ascend c.args.rows.now)

pub returns-in_err-ids-clause-large : goal.returns-in_err-ids-clause-large
returns-in_err-ids-clause-large c e fits =
    let t : nows c.as_slice-symbols.result.now ≡ symbols c.args.rows.now = ap nows c.as_slice-symbols.ensures.value ∙ c.requires.symbols in
    let o1 : c.put_symbols.new.out.items ≡ to_symbols c.args.rows.now = to_symbols_is c.args.rows.now (nows c.as_slice-symbols.result.now) c.args.out.now.items c.put_symbols.new.out.items t c.requires.head c.in_ok-put_symbols.ensures.text in
    let refused : c.put_series.result ≡ Err TooLarge = search rules in
    c.put_series.ensures.large refused (subst (λ x. AreSmall (λ (r : IndexRow). length (series_body x r)) c.args.rows.now) (sym t) fits.series_fit)
    (subst (AreSmall (λ (id : ℕ). id)) (sym (series_ids_is c.args.rows.now (nows c.as_slice-symbols.result.now) c.put_symbols.new.out.items _ t o1 refl)) fits.ids_fit)

pub returns-in_err-names-clause-large : goal.returns-in_err-names-clause-large
returns-in_err-names-clause-large c e fits =
    let t : nows c.as_slice-symbols.result.now ≡ symbols c.args.rows.now = ap nows c.as_slice-symbols.ensures.value ∙ c.requires.symbols in
    let p : map label_of c.as_slice.result.now ≡ pairs c.args.rows.now = ap (map label_of) c.as_slice.ensures.value ∙ c.requires.pairs in
    let refused : c.put_label_indices.result ≡ Err TooLarge = search rules in
    c.put_label_indices.ensures.large refused (names_small c.args.rows.now (nows c.as_slice-symbols.result.now) (map label_of c.as_slice.result.now) t p fits.label_indices_fit)

pub returns-in_err-lists-clause-large : goal.returns-in_err-lists-clause-large
returns-in_err-lists-clause-large c e fits =
    let t : nows c.as_slice-symbols.result.now ≡ symbols c.args.rows.now = ap nows c.as_slice-symbols.ensures.value ∙ c.requires.symbols in
    let o1 : c.put_symbols.new.out.items ≡ to_symbols c.args.rows.now = to_symbols_is c.args.rows.now (nows c.as_slice-symbols.result.now) c.args.out.now.items c.put_symbols.new.out.items t c.requires.head c.in_ok-put_symbols.ensures.text in
    let i : c.in_ok-ids.ids.items ≡ series_ids c.args.rows.now = series_ids_is c.args.rows.now (nows c.as_slice-symbols.result.now) c.put_symbols.new.out.items c.in_ok-ids.ids.items t o1 c.in_ok-ids.ensures.ids in
    let k : c.as_slice-2.result.now ≡ series_ids c.args.rows.now = c.as_slice-2.ensures.value ∙ i in
    let l : map row_label_of c.as_slice-3.result.now ≡ ascending compare_row_label (labels_from 0 c.args.rows.now) = ap (map row_label_of) c.as_slice-3.ensures.value ∙ c.requires.labels in
    let refused : c.put_postings.result ≡ Err TooLarge = search rules in
    c.put_postings.ensures.large refused (subst (λ x. IsSmall (length (postings_body x))) (sym k) fits.everything_fits) (lists_small c.args.rows.now c.as_slice-2.result.now (map row_label_of c.as_slice-3.result.now) k l fits.postings_fit)

pub returns-in_err-put_label_table-clause-large : goal.returns-in_err-put_label_table-clause-large
returns-in_err-put_label_table-clause-large c e fits =
    let t : nows c.as_slice-symbols.result.now ≡ symbols c.args.rows.now = ap nows c.as_slice-symbols.ensures.value ∙ c.requires.symbols in
    let o1 : c.put_symbols.new.out.items ≡ to_symbols c.args.rows.now = to_symbols_is c.args.rows.now (nows c.as_slice-symbols.result.now) c.args.out.now.items c.put_symbols.new.out.items t c.requires.head c.in_ok-put_symbols.ensures.text in
    let o2 : c.put_series.new.out.items ≡ to_series c.args.rows.now = to_series_is c.args.rows.now (nows c.as_slice-symbols.result.now) c.put_symbols.new.out.items c.put_series.new.out.items t o1 c.in_ok-ids.ensures.written in
    let i : c.in_ok-ids.ids.items ≡ series_ids c.args.rows.now = series_ids_is c.args.rows.now (nows c.as_slice-symbols.result.now) c.put_symbols.new.out.items c.in_ok-ids.ids.items t o1 c.in_ok-ids.ensures.ids in
    let p : map label_of c.as_slice.result.now ≡ pairs c.args.rows.now = ap (map label_of) c.as_slice.ensures.value ∙ c.requires.pairs in
    let n : map name_place_of c.in_ok-names.names.items ≡ label_entries c.args.rows.now = label_entries_is c.args.rows.now (nows c.as_slice-symbols.result.now) (map label_of c.as_slice.result.now) c.put_series.new.out.items (map name_place_of c.in_ok-names.names.items) t p o2 c.in_ok-names.ensures.named in
    let n4 : map name_place_of c.as_slice-4.result.now ≡ label_entries c.args.rows.now = ap (map name_place_of) c.as_slice-4.ensures.value ∙ n in
    let refused : c.put_label_table.result ≡ Err TooLarge = search rules in
    let large = c.put_label_table.ensures.large refused in
    omega (arith, subst (λ x. 2 ^ 32 ≤ length (label_table_body x)) n4 large, fits.label_table_fits)

pub returns-in_err-put_postings_table-clause-large : goal.returns-in_err-put_postings_table-clause-large
returns-in_err-put_postings_table-clause-large c e fits =
    let t : nows c.as_slice-symbols.result.now ≡ symbols c.args.rows.now = ap nows c.as_slice-symbols.ensures.value ∙ c.requires.symbols in
    let o1 : c.put_symbols.new.out.items ≡ to_symbols c.args.rows.now = to_symbols_is c.args.rows.now (nows c.as_slice-symbols.result.now) c.args.out.now.items c.put_symbols.new.out.items t c.requires.head c.in_ok-put_symbols.ensures.text in
    let o2 : c.put_series.new.out.items ≡ to_series c.args.rows.now = to_series_is c.args.rows.now (nows c.as_slice-symbols.result.now) c.put_symbols.new.out.items c.put_series.new.out.items t o1 c.in_ok-ids.ensures.written in
    let i : c.in_ok-ids.ids.items ≡ series_ids c.args.rows.now = series_ids_is c.args.rows.now (nows c.as_slice-symbols.result.now) c.put_symbols.new.out.items c.in_ok-ids.ids.items t o1 c.in_ok-ids.ensures.ids in
    let p : map label_of c.as_slice.result.now ≡ pairs c.args.rows.now = ap (map label_of) c.as_slice.ensures.value ∙ c.requires.pairs in
    let o3 : c.put_label_indices.new.out.items ≡ to_label_indices c.args.rows.now = to_label_indices_is c.args.rows.now (nows c.as_slice-symbols.result.now) (map label_of c.as_slice.result.now) c.put_series.new.out.items c.put_label_indices.new.out.items t p o2 c.in_ok-names.ensures.text in
    let n : map name_place_of c.in_ok-names.names.items ≡ label_entries c.args.rows.now = label_entries_is c.args.rows.now (nows c.as_slice-symbols.result.now) (map label_of c.as_slice.result.now) c.put_series.new.out.items (map name_place_of c.in_ok-names.names.items) t p o2 c.in_ok-names.ensures.named in
    let k : c.as_slice-2.result.now ≡ series_ids c.args.rows.now = c.as_slice-2.ensures.value ∙ i in
    let l : map row_label_of c.as_slice-3.result.now ≡ ascending compare_row_label (labels_from 0 c.args.rows.now) = ap (map row_label_of) c.as_slice-3.ensures.value ∙ c.requires.labels in
    let m : map label_place_of c.in_ok-lists.lists.items ≡ postings_entries c.args.rows.now = postings_entries_is c.args.rows.now c.as_slice-2.result.now (map row_label_of c.as_slice-3.result.now) c.put_label_indices.new.out.items (map label_place_of c.in_ok-lists.lists.items) k l o3 c.in_ok-lists.ensures.listed in
    let m5 : map label_place_of c.as_slice-5.result.now ≡ postings_entries c.args.rows.now = ap (map label_place_of) c.as_slice-5.ensures.value ∙ m in
    let refused : c.put_postings_table.result ≡ Err TooLarge = search rules in
    let large = c.put_postings_table.ensures.large refused in
    omega (arith, subst (λ x. 2 ^ 32 ≤ length (postings_table_body x)) m5 large, fits.postings_table_fits)

pub returns-clause-ids : goal.returns-clause-ids
returns-clause-ids c =
    let t : nows c.as_slice-symbols.result.now ≡ symbols c.args.rows.now = ap nows c.as_slice-symbols.ensures.value ∙ c.requires.symbols in
    let o1 : c.put_symbols.new.out.items ≡ to_symbols c.args.rows.now = to_symbols_is c.args.rows.now (nows c.as_slice-symbols.result.now) c.args.out.now.items c.put_symbols.new.out.items t c.requires.head c.in_ok-put_symbols.ensures.text in
    let i : c.in_ok-ids.ids.items ≡ series_ids c.args.rows.now = series_ids_is c.args.rows.now (nows c.as_slice-symbols.result.now) c.put_symbols.new.out.items c.in_ok-ids.ids.items t o1 c.in_ok-ids.ensures.ids in
    search (rules, i)

pub returns-clause-text : goal.returns-clause-text
returns-clause-text c =
    let t : nows c.as_slice-symbols.result.now ≡ symbols c.args.rows.now = ap nows c.as_slice-symbols.ensures.value ∙ c.requires.symbols in
    let o1 : c.put_symbols.new.out.items ≡ to_symbols c.args.rows.now = to_symbols_is c.args.rows.now (nows c.as_slice-symbols.result.now) c.args.out.now.items c.put_symbols.new.out.items t c.requires.head c.in_ok-put_symbols.ensures.text in
    let o2 : c.put_series.new.out.items ≡ to_series c.args.rows.now = to_series_is c.args.rows.now (nows c.as_slice-symbols.result.now) c.put_symbols.new.out.items c.put_series.new.out.items t o1 c.in_ok-ids.ensures.written in
    let i : c.in_ok-ids.ids.items ≡ series_ids c.args.rows.now = series_ids_is c.args.rows.now (nows c.as_slice-symbols.result.now) c.put_symbols.new.out.items c.in_ok-ids.ids.items t o1 c.in_ok-ids.ensures.ids in
    let p : map label_of c.as_slice.result.now ≡ pairs c.args.rows.now = ap (map label_of) c.as_slice.ensures.value ∙ c.requires.pairs in
    let o3 : c.put_label_indices.new.out.items ≡ to_label_indices c.args.rows.now = to_label_indices_is c.args.rows.now (nows c.as_slice-symbols.result.now) (map label_of c.as_slice.result.now) c.put_series.new.out.items c.put_label_indices.new.out.items t p o2 c.in_ok-names.ensures.text in
    let n : map name_place_of c.in_ok-names.names.items ≡ label_entries c.args.rows.now = label_entries_is c.args.rows.now (nows c.as_slice-symbols.result.now) (map label_of c.as_slice.result.now) c.put_series.new.out.items (map name_place_of c.in_ok-names.names.items) t p o2 c.in_ok-names.ensures.named in
    let k : c.as_slice-2.result.now ≡ series_ids c.args.rows.now = c.as_slice-2.ensures.value ∙ i in
    let l : map row_label_of c.as_slice-3.result.now ≡ ascending compare_row_label (labels_from 0 c.args.rows.now) = ap (map row_label_of) c.as_slice-3.ensures.value ∙ c.requires.labels in
    let o4 : c.put_postings.new.out.items ≡ to_postings c.args.rows.now = to_postings_is c.args.rows.now c.as_slice-2.result.now (map row_label_of c.as_slice-3.result.now) c.put_label_indices.new.out.items c.put_postings.new.out.items k l o3 c.in_ok-lists.ensures.text in
    let m : map label_place_of c.in_ok-lists.lists.items ≡ postings_entries c.args.rows.now = postings_entries_is c.args.rows.now c.as_slice-2.result.now (map row_label_of c.as_slice-3.result.now) c.put_label_indices.new.out.items (map label_place_of c.in_ok-lists.lists.items) k l o3 c.in_ok-lists.ensures.listed in
    let n4 : map name_place_of c.as_slice-4.result.now ≡ label_entries c.args.rows.now = ap (map name_place_of) c.as_slice-4.ensures.value ∙ n in
    let o5 : c.put_label_table.new.out.items ≡ to_label_table c.args.rows.now = to_label_table_is c.args.rows.now (map name_place_of c.as_slice-4.result.now) c.put_postings.new.out.items c.put_label_table.new.out.items n4 o4 c.in_ok-put_label_table.ensures.text in
    let m5 : map label_place_of c.as_slice-5.result.now ≡ postings_entries c.args.rows.now = ap (map label_place_of) c.as_slice-5.ensures.value ∙ m in
    let o6 : c.put_postings_table.new.out.items ≡ to_postings_table c.args.rows.now = to_postings_table_is c.args.rows.now (map label_place_of c.as_slice-5.result.now) c.put_label_table.new.out.items c.put_postings_table.new.out.items m5 o5 c.in_ok-put_postings_table.ensures.text in
    let es : c.len-series.result ≡ length (to_symbols c.args.rows.now) = search (rules, o1) in
    let eli : c.len-label_indices.result ≡ length (to_series c.args.rows.now) = search (rules, o2) in
    let ep : c.len-postings.result ≡ length (to_label_indices c.args.rows.now) = search (rules, o3) in
    let elt : c.len-label_table.result ≡ length (to_postings c.args.rows.now) = search (rules, o4) in
    let ept : c.len-postings_table.result ≡ length (to_label_table c.args.rows.now) = search (rules, o5) in
    let done = index_text_is c.args.rows.now c.put_postings_table.new.out.items c.put_toc.new.out.items c.len-series.result c.len-label_indices.result c.len-label_table.result c.len-postings.result c.len-postings_table.result o6 es eli ep elt ept c.in_ok-put_toc.ensures in
    search (rules, done)

pub returns-clause-fits : goal.returns-clause-fits
returns-clause-fits c =
    let t : nows c.as_slice-symbols.result.now ≡ symbols c.args.rows.now = ap nows c.as_slice-symbols.ensures.value ∙ c.requires.symbols in
    let o1 : c.put_symbols.new.out.items ≡ to_symbols c.args.rows.now = to_symbols_is c.args.rows.now (nows c.as_slice-symbols.result.now) c.args.out.now.items c.put_symbols.new.out.items t c.requires.head c.in_ok-put_symbols.ensures.text in
    let o2 : c.put_series.new.out.items ≡ to_series c.args.rows.now = to_series_is c.args.rows.now (nows c.as_slice-symbols.result.now) c.put_symbols.new.out.items c.put_series.new.out.items t o1 c.in_ok-ids.ensures.written in
    let i : c.in_ok-ids.ids.items ≡ series_ids c.args.rows.now = series_ids_is c.args.rows.now (nows c.as_slice-symbols.result.now) c.put_symbols.new.out.items c.in_ok-ids.ids.items t o1 c.in_ok-ids.ensures.ids in
    let p : map label_of c.as_slice.result.now ≡ pairs c.args.rows.now = ap (map label_of) c.as_slice.ensures.value ∙ c.requires.pairs in
    let o3 : c.put_label_indices.new.out.items ≡ to_label_indices c.args.rows.now = to_label_indices_is c.args.rows.now (nows c.as_slice-symbols.result.now) (map label_of c.as_slice.result.now) c.put_series.new.out.items c.put_label_indices.new.out.items t p o2 c.in_ok-names.ensures.text in
    let n : map name_place_of c.in_ok-names.names.items ≡ label_entries c.args.rows.now = label_entries_is c.args.rows.now (nows c.as_slice-symbols.result.now) (map label_of c.as_slice.result.now) c.put_series.new.out.items (map name_place_of c.in_ok-names.names.items) t p o2 c.in_ok-names.ensures.named in
    let k : c.as_slice-2.result.now ≡ series_ids c.args.rows.now = c.as_slice-2.ensures.value ∙ i in
    let l : map row_label_of c.as_slice-3.result.now ≡ ascending compare_row_label (labels_from 0 c.args.rows.now) = ap (map row_label_of) c.as_slice-3.ensures.value ∙ c.requires.labels in
    let o4 : c.put_postings.new.out.items ≡ to_postings c.args.rows.now = to_postings_is c.args.rows.now c.as_slice-2.result.now (map row_label_of c.as_slice-3.result.now) c.put_label_indices.new.out.items c.put_postings.new.out.items k l o3 c.in_ok-lists.ensures.text in
    let m : map label_place_of c.in_ok-lists.lists.items ≡ postings_entries c.args.rows.now = postings_entries_is c.args.rows.now c.as_slice-2.result.now (map row_label_of c.as_slice-3.result.now) c.put_label_indices.new.out.items (map label_place_of c.in_ok-lists.lists.items) k l o3 c.in_ok-lists.ensures.listed in
    let n4 : map name_place_of c.as_slice-4.result.now ≡ label_entries c.args.rows.now = ap (map name_place_of) c.as_slice-4.ensures.value ∙ n in
    let o5 : c.put_label_table.new.out.items ≡ to_label_table c.args.rows.now = to_label_table_is c.args.rows.now (map name_place_of c.as_slice-4.result.now) c.put_postings.new.out.items c.put_label_table.new.out.items n4 o4 c.in_ok-put_label_table.ensures.text in
    let m5 : map label_place_of c.as_slice-5.result.now ≡ postings_entries c.args.rows.now = ap (map label_place_of) c.as_slice-5.ensures.value ∙ m in
    record {
      symbols_fit = subst (λ x. length (symbols_body x) < 2 ^ 32) t (c.in_ok-put_symbols.ensures.small refl);
      series_fit = subst (λ x. AreSmall (λ (r : IndexRow). length (series_body x r)) c.args.rows.now) t (c.in_ok-ids.ensures.small refl);
      ids_fit = subst (AreSmall (λ (id : ℕ). id)) i c.in_ok-ids.ensures.small_ids;
      label_indices_fit = small_names c.args.rows.now (nows c.as_slice-symbols.result.now) (map label_of c.as_slice.result.now) t p (c.in_ok-names.ensures.small refl);
      everything_fits = subst (λ x. IsSmall (length (postings_body x))) k (c.in_ok-lists.ensures.small refl);
      postings_fit = small_lists c.args.rows.now c.as_slice-2.result.now (map row_label_of c.as_slice-3.result.now) k l (c.in_ok-lists.ensures.each_small refl);
      label_table_fits = subst (λ x. length (label_table_body x) < 2 ^ 32) n4 (c.in_ok-put_label_table.ensures.small refl);
      postings_table_fits = subst (λ x. length (postings_table_body x) < 2 ^ 32) m5 (c.in_ok-put_postings_table.ensures.small refl);
    }
