-- What is written section by section is the text of the index.
use Rattle.std.proofs.Common.{◌≡◌, ℕ, zero, suc, ◌+◌, ◌/◌, List, [], ◌∷◌, ◌++◌, length, map, refl, sym, ap, subst, ◌∙◌, arith}
use Rattle.std.specs.Prelude.{replicate}
use Rattle.std.specs.List.{zip, range_with_len, flat_map}
use Rattle.std.proofs.lemmas.List.{length-map, append-nil}
use Rattle.wal_record.specs.declared.labels.Label.{Label}
use Rattle.wal_record.specs.Labels.{compare_label}
use Rattle.index_text.specs.declared.row.IndexRow.{IndexRow}
use Rattle.index_text.specs.Index.{everything, head_text, ids_with, index_text, label_entries, label_index_body, label_indices, label_indices_of, label_table_body, labels_from, names, names_in, pairs, postings, postings_body, postings_entries, postings_table_body, series_body, series_elements, series_ids, symbols, symbols_body, to_label_indices, to_label_table, to_postings, to_postings_table, to_series, to_symbols, toc, toc_text, values_of}
use Rattle.index_text.specs.Layout.{Text, counted, framed, padding, place, places, put, put_all, sum_text}
use Rattle.index_text.specs.Lent.{compare_row_label}
use Rattle.index_text.specs.Posted.{ids_of, labels_in, lists_of}
use Rattle.index_text.specs.Rows.{AreSmall, IsSmall}
use Rattle.index_text.specs.Sets.{IsAscending, ascending, text_cmp}
use Rattle.index_text.proofs.Orders.{as_order, label_total, row_label_total, text_total}
use Rattle.index_text.proofs.Ranks.{ascending-is}
use Rattle.index_text.proofs.RowLists.{ids_are, pairs_are}

-- nothing aligns to one
pub put-one : (before element : Text) → put 1 before element ≡ before ++ element
put-one before element =
    let none : padding 1 (length before) ≡ 0 = omega arith in
    ap (λ n. (before ++ replicate n 0) ++ element) none ∙ ap (λ t. t ++ element) (append-nil before)

map_all : {A B : Type 0} (f g : A → B) → ((x : A) → f x ≡ g x) → (xs : List A) → map f xs ≡ map g xs
map_all f g h [] = refl
map_all f g h (x ∷ xs) = rw (h x, map_all f g h xs) refl

length-range : (from n : ℕ) → length (range_with_len from n) ≡ n
length-range from zero = refl
length-range from (suc n) = ap suc (length-range (from + 1) n)

pub length-ids : (rows : List IndexRow) → length (series_ids rows) ≡ length rows
unfolding series_ids
length-ids rows =
    length-map (places 16 (to_symbols rows) (series_elements rows)) (λ n. n / 16)
    ∙ length-map (range_with_len 0 (length (series_elements rows))) (place 16 (to_symbols rows) (series_elements rows))
    ∙ length-range 0 (length (series_elements rows)) ∙ length-map rows (λ r. counted (series_body (symbols rows) r))

module _ (rows : List IndexRow) where
  pub to_symbols_is : (table : List Text) (out out1 : Text) → table ≡ symbols rows → out ≡ head_text → out1 ≡ out ++ framed (symbols_body table) → out1 ≡ to_symbols rows
  unfolding to_symbols
  to_symbols_is table out out1 t o e = e ∙ ap (λ x. x ++ framed (symbols_body table)) o ∙ ap (λ x. head_text ++ framed (symbols_body x)) t ∙ sym (put-one head_text (framed (symbols_body (symbols rows))))

  pub to_series_is : (table : List Text) (out out1 : Text) → table ≡ symbols rows → out ≡ to_symbols rows → out1 ≡ put_all 16 out (map (λ r. counted (series_body table r)) rows) → out1 ≡ to_series rows
  unfolding to_series
  to_series_is table out out1 t o e = e ∙ ap (λ x. put_all 16 x (map (λ r. counted (series_body table r)) rows)) o ∙ ap (λ x. put_all 16 (to_symbols rows) (map (λ r. counted (series_body x r)) rows)) t

  pub series_ids_is : (table : List Text) (out : Text) (ids : List ℕ) → table ≡ symbols rows → out ≡ to_symbols rows → ids ≡ map (λ n. n / 16) (places 16 out (map (λ r. counted (series_body table r)) rows)) → ids ≡ series_ids rows
  unfolding series_ids
  series_ids_is table out ids t o e = e ∙ ap (λ x. map (λ n. n / 16) (places 16 x (map (λ r. counted (series_body table r)) rows))) o ∙ ap (λ x. map (λ n. n / 16) (places 16 (to_symbols rows) (map (λ r. counted (series_body x r)) rows))) t

  pub to_label_indices_is : (table : List Text) (ps : List Label) (out out1 : Text) → table ≡ symbols rows → ps ≡ pairs rows → out ≡ to_series rows → out1 ≡ put_all 4 out (label_indices_of table ps) → out1 ≡ to_label_indices rows
  unfolding to_label_indices label_indices
  to_label_indices_is table ps out out1 t p o e = e ∙ ap (λ x. put_all 4 x (label_indices_of table ps)) o ∙ ap (λ x. put_all 4 (to_series rows) (label_indices_of x ps)) t ∙ ap (λ x. put_all 4 (to_series rows) (label_indices_of (symbols rows) x)) p

  pub label_entries_is : (table : List Text) (ps : List Label) (out : Text) (entries : List (Text × ℕ)) → table ≡ symbols rows → ps ≡ pairs rows → out ≡ to_series rows
      → entries ≡ zip (names_in ps) (places 4 out (label_indices_of table ps)) → entries ≡ label_entries rows
  unfolding label_indices names
  label_entries_is table ps out entries t p o e =
      e ∙ ap (λ x. zip (names_in ps) (places 4 x (label_indices_of table ps))) o ∙ ap (λ x. zip (names_in ps) (places 4 (to_series rows) (label_indices_of x ps))) t
      ∙ ap (λ x. zip (names_in x) (places 4 (to_series rows) (label_indices_of (symbols rows) x))) p

  pub lists_are : lists_of (series_ids rows) (ascending compare_row_label (labels_from 0 rows)) ≡ map (λ p. framed (postings_body (ids_with rows p))) (pairs rows)
  lists_are =
      ap (map (λ p. framed (postings_body (ids_of (series_ids rows) (ascending compare_row_label (labels_from 0 rows)) p)))) (pairs_are rows)
      ∙ map_all (λ p. framed (postings_body (ids_of (series_ids rows) (ascending compare_row_label (labels_from 0 rows)) p))) (λ p. framed (postings_body (ids_with rows p)))
      (λ p. ap (λ ids. framed (postings_body ids)) (ids_are (series_ids rows) rows p (length-ids rows))) (pairs rows)

  all_lists : (ids : List ℕ) (ls : List (Label × ℕ)) → ids ≡ series_ids rows → ls ≡ ascending compare_row_label (labels_from 0 rows) → framed (postings_body ids) ∷ lists_of ids ls ≡ postings rows
  unfolding postings
  all_lists ids ls i l =
      ap (λ x. framed (postings_body x) ∷ lists_of x ls) i ∙ ap (λ x. framed (postings_body (series_ids rows)) ∷ lists_of (series_ids rows) x) l
      ∙ ap (λ x. framed (postings_body (series_ids rows)) ∷ x) lists_are

  pub to_postings_is : (ids : List ℕ) (ls : List (Label × ℕ)) (out out1 : Text) → ids ≡ series_ids rows → ls ≡ ascending compare_row_label (labels_from 0 rows) → out ≡ to_label_indices rows
      → out1 ≡ put_all 4 out (framed (postings_body ids) ∷ lists_of ids ls) → out1 ≡ to_postings rows
  unfolding to_postings
  to_postings_is ids ls out out1 i l o e = e ∙ ap (put_all 4 out) (all_lists ids ls i l) ∙ ap (λ x. put_all 4 x (postings rows)) o

  pub postings_entries_is : (ids : List ℕ) (ls : List (Label × ℕ)) (out : Text) (entries : List (Label × ℕ)) → ids ≡ series_ids rows → ls ≡ ascending compare_row_label (labels_from 0 rows) → out ≡ to_label_indices rows
      → entries ≡ zip (everything ∷ labels_in ls) (places 4 out (framed (postings_body ids) ∷ lists_of ids ls)) → entries ≡ postings_entries rows
  postings_entries_is ids ls out entries i l o e =
      e ∙ ap (λ x. zip (everything ∷ labels_in ls) (places 4 out x)) (all_lists ids ls i l) ∙ ap (λ x. zip (everything ∷ labels_in ls) (places 4 x (postings rows))) o
      ∙ ap (λ x. zip (everything ∷ x) (places 4 (to_label_indices rows) (postings rows))) (ap labels_in l ∙ pairs_are rows)

  pub to_label_table_is : (entries : List (Text × ℕ)) (out out1 : Text) → entries ≡ label_entries rows → out ≡ to_postings rows → out1 ≡ out ++ framed (label_table_body entries) → out1 ≡ to_label_table rows
  unfolding to_label_table
  to_label_table_is entries out out1 n o e = e ∙ ap (λ x. x ++ framed (label_table_body entries)) o ∙ ap (λ x. to_postings rows ++ framed (label_table_body x)) n ∙ sym (put-one (to_postings rows) (framed (label_table_body (label_entries rows))))

  pub to_postings_table_is : (entries : List (Label × ℕ)) (out out1 : Text) → entries ≡ postings_entries rows → out ≡ to_label_table rows → out1 ≡ out ++ framed (postings_table_body entries) → out1 ≡ to_postings_table rows
  unfolding to_postings_table
  to_postings_table_is entries out out1 n o e = e ∙ ap (λ x. x ++ framed (postings_table_body entries)) o ∙ ap (λ x. to_label_table rows ++ framed (postings_table_body x)) n ∙ sym (put-one (to_label_table rows) (framed (postings_table_body (postings_entries rows))))

  pub index_text_is : (out out1 : Text) (s li lt p pt : ℕ) → out ≡ to_postings_table rows → s ≡ length (to_symbols rows) → li ≡ length (to_series rows) → p ≡ length (to_label_indices rows) → lt ≡ length (to_postings rows) → pt ≡ length (to_label_table rows)
      → out1 ≡ out ++ toc_text 5 s li lt p pt ++ sum_text (toc_text 5 s li lt p pt) → out1 ≡ index_text rows
  unfolding index_text toc
  index_text_is out out1 s li lt p pt o es eli ep elt ept e =
      e ∙ ap (λ x. x ++ toc_text 5 s li lt p pt ++ sum_text (toc_text 5 s li lt p pt)) o
      ∙ ap (λ x. to_postings_table rows ++ toc_text 5 x li lt p pt ++ sum_text (toc_text 5 x li lt p pt)) es
      ∙ ap (λ x. to_postings_table rows ++ toc_text 5 (length (to_symbols rows)) x lt p pt ++ sum_text (toc_text 5 (length (to_symbols rows)) x lt p pt)) eli
      ∙ ap (λ x. to_postings_table rows ++ toc_text 5 (length (to_symbols rows)) (length (to_series rows)) x p pt ++ sum_text (toc_text 5 (length (to_symbols rows)) (length (to_series rows)) x p pt)) elt
      ∙ ap (λ x. to_postings_table rows ++ toc_text 5 (length (to_symbols rows)) (length (to_series rows)) (length (to_postings rows)) x pt ++ sum_text (toc_text 5 (length (to_symbols rows)) (length (to_series rows)) (length (to_postings rows)) x pt)) ep
      ∙ ap (λ x. to_postings_table rows ++ toc_text 5 (length (to_symbols rows)) (length (to_series rows)) (length (to_postings rows)) (length (to_label_indices rows)) x ++ sum_text (toc_text 5 (length (to_symbols rows)) (length (to_series rows)) (length (to_postings rows)) (length (to_label_indices rows)) x)) ept

  pub symbols_ascend : IsAscending text_cmp (symbols rows)
  unfolding symbols
  symbols_ascend = ascending-is text_cmp (as_order text_total) (flat_map (λ (p : Label). p.name ∷ p.value ∷ []) (pairs rows))

  pub pairs_ascend : IsAscending compare_label (pairs rows)
  unfolding pairs
  pairs_ascend = ascending-is compare_label (as_order label_total) (flat_map (λ (r : IndexRow). r.labels) rows)

  pub rows_ascend : IsAscending compare_row_label (ascending compare_row_label (labels_from 0 rows))
  rows_ascend = ascending-is compare_row_label (as_order row_label_total) (labels_from 0 rows)

  -- ---- sizes, of what was gathered and of what the rows say

  pub names_small : (table : List Text) (ps : List Label) → table ≡ symbols rows → ps ≡ pairs rows
      → AreSmall (λ name. length (label_index_body (symbols rows) (values_of (pairs rows) name))) (names rows) → AreSmall (λ name. length (label_index_body table (values_of ps name))) (names_in ps)
  unfolding names
  names_small table ps t p h = subst (λ x. AreSmall (λ name. length (label_index_body table (values_of x name))) (names_in x)) (sym p) (subst (λ x. AreSmall (λ name. length (label_index_body x (values_of (pairs rows) name))) (names_in (pairs rows))) (sym t) h)

  pub small_names : (table : List Text) (ps : List Label) → table ≡ symbols rows → ps ≡ pairs rows
      → AreSmall (λ name. length (label_index_body table (values_of ps name))) (names_in ps) → AreSmall (λ name. length (label_index_body (symbols rows) (values_of (pairs rows) name))) (names rows)
  unfolding names
  small_names table ps t p h = subst (λ x. AreSmall (λ name. length (label_index_body x (values_of (pairs rows) name))) (names_in (pairs rows))) t (subst (λ x. AreSmall (λ name. length (label_index_body table (values_of x name))) (names_in x)) p h)

  same_sized : (f g : Label → List ℕ) → ((p : Label) → f p ≡ g p) → (ps : List Label) → AreSmall (λ p. length (postings_body (f p))) ps → AreSmall (λ p. length (postings_body (g p))) ps
  same_sized f g h [] s = tt
  same_sized f g h (p ∷ ps) s = (subst (λ ids. IsSmall (length (postings_body ids))) (h p) s.0, same_sized f g h ps s.1)

  pub lists_small : (ids : List ℕ) (ls : List (Label × ℕ)) → ids ≡ series_ids rows → ls ≡ ascending compare_row_label (labels_from 0 rows)
      → AreSmall (λ p. length (postings_body (ids_with rows p))) (pairs rows) → AreSmall (λ p. length (postings_body (ids_of ids ls p))) (labels_in ls)
  lists_small ids ls i l h =
      subst (λ x. AreSmall (λ p. length (postings_body (ids_of ids x p))) (labels_in x)) (sym l)
      (subst (λ x. AreSmall (λ p. length (postings_body (ids_of x (ascending compare_row_label (labels_from 0 rows)) p))) (labels_in (ascending compare_row_label (labels_from 0 rows)))) (sym i)
      (subst (AreSmall (λ p. length (postings_body (ids_of (series_ids rows) (ascending compare_row_label (labels_from 0 rows)) p)))) (sym (pairs_are rows))
      (same_sized (ids_with rows) (ids_of (series_ids rows) (ascending compare_row_label (labels_from 0 rows))) (λ p. sym (ids_are (series_ids rows) rows p (length-ids rows))) (pairs rows) h)))

  pub small_lists : (ids : List ℕ) (ls : List (Label × ℕ)) → ids ≡ series_ids rows → ls ≡ ascending compare_row_label (labels_from 0 rows)
      → AreSmall (λ p. length (postings_body (ids_of ids ls p))) (labels_in ls) → AreSmall (λ p. length (postings_body (ids_with rows p))) (pairs rows)
  small_lists ids ls i l h =
      same_sized (ids_of (series_ids rows) (ascending compare_row_label (labels_from 0 rows))) (ids_with rows) (λ p. ids_are (series_ids rows) rows p (length-ids rows)) (pairs rows)
      (subst (AreSmall (λ p. length (postings_body (ids_of (series_ids rows) (ascending compare_row_label (labels_from 0 rows)) p)))) (pairs_are rows)
      (subst (λ x. AreSmall (λ p. length (postings_body (ids_of x (ascending compare_row_label (labels_from 0 rows)) p))) (labels_in (ascending compare_row_label (labels_from 0 rows)))) i
      (subst (λ x. AreSmall (λ p. length (postings_body (ids_of ids x p))) (labels_in x)) l h)))
