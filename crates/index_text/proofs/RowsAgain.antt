-- The text of an index reads as its rows.
use Rattle.std.proofs.Common.{◌≡◌, ℕ, ◌+◌, ◌-◌, ◌^◌, ◌≤◌, ◌<◌, inl, inr, true, false, ltb, leb, List, [], ◌∷◌, ◌++◌, length, get_or, map, filter, Result, Ok, refl, sym, ap, subst, ◌∙◌, append_assoc, arith}
use Rattle.std.specs.Prelude.{replicate}
use Rattle.std.specs.List.{flat_map, zip, AllByRecursion}
use Rattle.std.specs.declared.cmp.Ordering.{Ordering}
use Rattle.std.proofs.lemmas.Bool.{le-ltb, le-leb}
use Rattle.std.proofs.lemmas.List.{length-append}
use Rattle.std.proofs.lemmas.List.Concat.{flat_map-cons}
use Rattle.hw_bytes.specs.Spellings.{IsBytes}
use Rattle.hw_bytes.specs.Writing.{big_bytes, text, uvarint}
use Rattle.wal_record.specs.declared.labels.Label.{Label}
use Rattle.wal_record.specs.Labels.{compare_label}
use Rattle.index_text.specs.declared.row.IndexRow.{IndexRow}
use Rattle.index_text.specs.declared.toc.Toc.{Toc}
use Rattle.index_text.specs.Fields.{label_index_done, label_table_done, postings_done, postings_table_done, symbols_field}
use Rattle.index_text.specs.Groups.{members}
use Rattle.std.specs.Ordering.{is_eq}
use Rattle.hw_bytes.proofs.SumLaws.{sum_length}
use Rattle.index_text.specs.declared.fault.ReadFault.{ReadFault}
use Rattle.index_text.specs.Index.{everything, head_text, ids_with, index_text, label_entries, label_entry, label_index_body, label_indices, label_table_body, names, names_in, pairs, postings, postings_body, postings_entries, postings_entry, postings_table_body, series_body, series_elements, series_ids, symbols, symbols_body, to_label_indices, to_label_table, to_postings, to_postings_table, to_series, to_symbols, toc, values_of, has_pair}
use Rattle.index_text.specs.Layout.{Text, counted, framed, padding, places, put_all, sum_text}
use Rattle.index_text.specs.Reading.{all_elements, are_places, between, elements_done, framed_done, head_of, only_done, only_element, row_of, rows_in, series_element_at, toc_of}
use Rattle.index_text.specs.Rows.{AreRows, FitsIndex, IsRow}
use Rattle.index_text.specs.Sets.{rank, text_cmp, IsAscending}
use Rattle.index_text.proofs.Again.{IsReadAt, elements_again}
use Rattle.index_text.proofs.GroupLoops.{length-symbols_body, length-label_index_body, length-label_table_body, length-postings_body, length-postings_table_body}
use Rattle.index_text.proofs.Laid.{laid, put_all-laid}
use Rattle.index_text.proofs.Orders.{label_exact, strict, text_exact, text_total}
use Rattle.index_text.proofs.Ranks.{Has, ascending-has, get_or-rank, rank-within}
use Rattle.index_text.proofs.SectionLaws.{ArePassedAt, elements_done_again, framed_done_again, only_done_again, series_element_again}
use Rattle.index_text.proofs.SeriesLaws.{AreWithin, refs_of, stored_of}
use Rattle.index_text.proofs.Sizes.{all_both, all_filter, all_map, all_weaker, are_chunks, chunks_shorter, each_shorter, labels_shorter, places_within, zip_left, zip_right}
use Rattle.index_text.proofs.TableLaws.{FitsEntry, FitsPostings, IsLong, label_index_done-again, label_table_done-again, postings_done-again, postings_table_done-again, symbols-again}
use Rattle.index_text.proofs.TocLaws.{between-is, text_of, toc_again}
use Rattle.index_text.proofs.WholeLaws.{IsBytes-left, IsBytes-right, all_read, only_element_again, stored_from}
use Rattle.index_text.proofs.WriteLaws.{put-one, symbols_ascend}

-- ---- the sections, one after another

module _ (rows : List IndexRow) where
  symbols_section : to_symbols rows ≡ head_text ++ framed (symbols_body (symbols rows))
  unfolding to_symbols
  symbols_section = put-one head_text (framed (symbols_body (symbols rows)))

  series_section : to_series rows ≡ to_symbols rows ++ laid 16 (length (to_symbols rows)) (series_elements rows)
  unfolding to_series
  series_section = put_all-laid 16 (to_symbols rows) (series_elements rows)

  label_indices_section : to_label_indices rows ≡ to_series rows ++ laid 4 (length (to_series rows)) (label_indices rows)
  unfolding to_label_indices
  label_indices_section = put_all-laid 4 (to_series rows) (label_indices rows)

  postings_section : to_postings rows ≡ to_label_indices rows ++ laid 4 (length (to_label_indices rows)) (postings rows)
  unfolding to_postings
  postings_section = put_all-laid 4 (to_label_indices rows) (postings rows)

  label_table_section : to_label_table rows ≡ to_postings rows ++ framed (label_table_body (label_entries rows))
  unfolding to_label_table
  label_table_section = put-one (to_postings rows) (framed (label_table_body (label_entries rows)))

  postings_table_section : to_postings_table rows ≡ to_label_table rows ++ framed (postings_table_body (postings_entries rows))
  unfolding to_postings_table
  postings_table_section = put-one (to_label_table rows) (framed (postings_table_body (postings_entries rows)))

  whole_text : index_text rows ≡ to_postings_table rows ++ (toc rows ++ sum_text (toc rows))
  unfolding index_text
  whole_text = append_assoc (to_postings_table rows) (toc rows) (sum_text (toc rows))

-- what lies between two places
cut : (whole a s b t : Text) → whole ≡ b ++ t → b ≡ a ++ s → between (length a) (length b) whole ≡ s
cut whole a s b t w e =
    ap (λ x. between (length a) (length b) x) (w ∙ ap (λ x. x ++ t) e) ∙ ap (λ x. between (length a) (length x) ((a ++ s) ++ t)) e ∙ between-is a s t

-- what follows a part follows what is before it, and it
joined : (whole a s b t : Text) → whole ≡ b ++ t → b ≡ a ++ s → whole ≡ a ++ (s ++ t)
joined whole a s b t w e = w ∙ ap (λ x. x ++ t) e ∙ append_assoc a s t

part_bytes : (whole a s b t : Text) → whole ≡ b ++ t → b ≡ a ++ s → IsBytes whole → IsBytes s
part_bytes whole a s b t w e h = IsBytes-right a s (subst IsBytes e (IsBytes-left b t (subst IsBytes w h)))

no_longer : (whole b t : Text) → whole ≡ b ++ t → length b ≤ length whole
no_longer whole b t w = omega (arith, ap length w, length-append b t)

longer : (a s b : Text) → b ≡ a ++ s → length a + length s ≡ length b
longer a s b e = sym (ap length e ∙ length-append a s)

framed_bytes : (body : Text) → IsBytes (framed body) → IsBytes body
framed_bytes body h = IsBytes-right (big_bytes 4 (length body)) body (IsBytes-left (big_bytes 4 (length body) ++ body) (sum_text body) h)

counted_bytes : (body : Text) → IsBytes (counted body) → IsBytes body
counted_bytes body h = IsBytes-right (uvarint (length body)) body (IsBytes-left (uvarint (length body) ++ body) (sum_text body) h)

laid_bytes : (align n : ℕ) (es : List Text) → IsBytes (laid align n es) → AllByRecursion IsBytes es
unfolding laid
laid_bytes align n [] h = tt
laid_bytes align n (e ∷ es) h =
    let rest = IsBytes-right (replicate (padding align n) 0) (e ++ laid align (n + padding align n + length e) es) h in
    (IsBytes-left e (laid align (n + padding align n + length e) es) rest, laid_bytes align (n + padding align n + length e) es (IsBytes-right e (laid align (n + padding align n + length e) es) rest))

bodies : {X : Type 0} (P : Text → Type 0) (f : X → Text) (xs : List X) → AllByRecursion P (map f xs) → AllByRecursion (λ x. P (f x)) xs
bodies P f [] h = tt
bodies P f (x ∷ xs) h = (h.0, bodies P f xs h.1)

-- ---- magic and version

head_again : (rest : List ℕ) → head_of (head_text ++ rest) ≡ Ok tt
unfolding head_of
head_again rest =
    let long : ltb (length (head_text ++ rest)) 4 ≡ false = le-ltb (length (head_text ++ rest)) 4 (omega (arith, length-append head_text rest)) in
    let more : ltb (length (2 ∷ rest)) 1 ≡ false = le-ltb (length (2 ∷ rest)) 1 (omega arith) in
    rw (long, more) refl

-- ---- every text that a row names is a symbol

all_has : {A : Type 0} (cmp : A → A → Ordering) (Q : A → Type 0) (xs : List A) → ((x : A) → Has cmp x xs → Q x) → AllByRecursion Q xs
all_has cmp Q [] h = tt
all_has cmp Q (x ∷ xs) h = (h x (inl refl), all_has cmp Q xs (λ y m. h y (inr m)))

parts_all : {A B : Type 0} (Q : B → Type 0) (f : A → List B) (xs : List A) → AllByRecursion Q (flat_map f xs) → AllByRecursion (λ x. AllByRecursion Q (f x)) xs
parts_all Q f [] h = tt
parts_all {B = B} Q f (x ∷ xs) h =
    let both = split (f x) (flat_map f xs) (subst (AllByRecursion Q) (flat_map-cons f x xs) h) in
    (both.0, parts_all Q f xs both.1)
  where
    split : (ys zs : List B) → AllByRecursion Q (ys ++ zs) → AllByRecursion Q ys × AllByRecursion Q zs
    split [] zs k = (tt, k)
    split (y ∷ ys) zs k = let more = split ys zs k.1 in ((k.0, more.0), more.1)

-- the name and the value are among the texts
abbrev AreNamed : List Text → Label → Type 0
AreNamed table l = Has text_cmp l.name table × Has text_cmp l.value table

texts_have : (l : Label) (ps : List Label) → Has compare_label l ps → AreNamed (flat_map (λ (p : Label). p.name ∷ p.value ∷ []) ps) l
texts_have l [] h = absurd h
texts_have l (p ∷ ps) (inl e) = (inl (ap (λ (x : Label). x.name) e), inr (inl (ap (λ (x : Label). x.value) e)))
texts_have l (p ∷ ps) (inr m) = let more = texts_have l ps m in (inr (inr more.0), inr (inr more.1))

pair_named : (rows : List IndexRow) (l : Label) → Has compare_label l (pairs rows) → AreNamed (symbols rows) l
unfolding symbols
pair_named rows l h =
    let both = texts_have l (pairs rows) h in (
      ascending-has text_cmp text_exact l.name (flat_map (λ (p : Label). p.name ∷ p.value ∷ []) (pairs rows)) both.0,
      ascending-has text_cmp text_exact l.value (flat_map (λ (p : Label). p.name ∷ p.value ∷ []) (pairs rows)) both.1,
    )

rows_named : (rows : List IndexRow) → AllByRecursion (λ (r : IndexRow). AllByRecursion (AreNamed (symbols rows)) r.labels) rows
unfolding pairs
rows_named rows =
    parts_all (AreNamed (symbols rows)) (λ (r : IndexRow). r.labels) rows
    (all_has compare_label (AreNamed (symbols rows)) (flat_map (λ (r : IndexRow). r.labels) rows) (λ l h. pair_named rows l (ascending-has compare_label label_exact l (flat_map (λ (r : IndexRow). r.labels) rows) h)))

pairs_named : (rows : List IndexRow) → AllByRecursion (AreNamed (symbols rows)) (pairs rows)
pairs_named rows = all_has compare_label (AreNamed (symbols rows)) (pairs rows) (λ l h. pair_named rows l h)

-- ---- a row from what is stored of it

labels_again : (table : List Text) → IsAscending text_cmp table → (ls : List Label) → AllByRecursion (AreNamed table) ls
    → map (λ (p : ℕ × ℕ). record { name = get_or table p.0 []; value = get_or table p.1 [] }) (map (refs_of table) ls) ≡ ls
labels_again table up [] h = refl
labels_again table up (l ∷ ls) h =
    rw (get_or-rank text_cmp (strict text_total) l.name [] table up h.0.0, get_or-rank text_cmp (strict text_total) l.value [] table up h.0.1) (ap (λ (t : List Label). l ∷ t) (labels_again table up ls h.1))

rows_back : (table : List Text) → IsAscending text_cmp table → (rows : List IndexRow) → AllByRecursion (λ (r : IndexRow). AllByRecursion (AreNamed table) r.labels) rows → map (row_of table) (map (stored_of table) rows) ≡ rows
rows_back table up [] h = refl
rows_back table up (r ∷ rows) h = rw (labels_again table up r.labels h.0, rows_back table up rows h.1) refl

within_all : (table : List Text) → IsAscending text_cmp table → (ls : List Label) → AllByRecursion (AreNamed table) ls → AllByRecursion (AreWithin (length table)) (map (refs_of table) ls)
within_all table up [] h = tt
within_all table up (l ∷ ls) h = ((rank-within text_cmp (strict text_total) l.name table up h.0.0, rank-within text_cmp (strict text_total) l.value table up h.0.1), within_all table up ls h.1)

-- ---- each section, of the rows of an index

module _ (rows : List IndexRow) (are : AreRows rows) (fits : FitsIndex rows) (bytes : IsBytes (index_text rows)) (short : length (index_text rows) < 2 ^ 64) where
  abbrev tail : Text
  tail = toc rows ++ sum_text (toc rows)

  at_six : index_text rows ≡ to_postings_table rows ++ tail
  at_six = whole_text rows

  at_five : index_text rows ≡ to_label_table rows ++ (framed (postings_table_body (postings_entries rows)) ++ tail)
  at_five = joined (index_text rows) (to_label_table rows) (framed (postings_table_body (postings_entries rows))) (to_postings_table rows) tail at_six (postings_table_section rows)

  at_four : index_text rows ≡ to_postings rows ++ (framed (label_table_body (label_entries rows)) ++ (framed (postings_table_body (postings_entries rows)) ++ tail))
  at_four = joined (index_text rows) (to_postings rows) (framed (label_table_body (label_entries rows))) (to_label_table rows) (framed (postings_table_body (postings_entries rows)) ++ tail) at_five (label_table_section rows)

  abbrev behind_four : Text
  behind_four = framed (label_table_body (label_entries rows)) ++ (framed (postings_table_body (postings_entries rows)) ++ tail)

  at_three : index_text rows ≡ to_label_indices rows ++ (laid 4 (length (to_label_indices rows)) (postings rows) ++ behind_four)
  at_three = joined (index_text rows) (to_label_indices rows) (laid 4 (length (to_label_indices rows)) (postings rows)) (to_postings rows) behind_four at_four (postings_section rows)

  abbrev behind_three : Text
  behind_three = laid 4 (length (to_label_indices rows)) (postings rows) ++ behind_four

  at_two : index_text rows ≡ to_series rows ++ (laid 4 (length (to_series rows)) (label_indices rows) ++ behind_three)
  at_two = joined (index_text rows) (to_series rows) (laid 4 (length (to_series rows)) (label_indices rows)) (to_label_indices rows) behind_three at_three (label_indices_section rows)

  abbrev behind_two : Text
  behind_two = laid 4 (length (to_series rows)) (label_indices rows) ++ behind_three

  at_one : index_text rows ≡ to_symbols rows ++ (laid 16 (length (to_symbols rows)) (series_elements rows) ++ behind_two)
  at_one = joined (index_text rows) (to_symbols rows) (laid 16 (length (to_symbols rows)) (series_elements rows)) (to_series rows) behind_two at_two (series_section rows)

  abbrev behind_one : Text
  behind_one = laid 16 (length (to_symbols rows)) (series_elements rows) ++ behind_two

  at_none : index_text rows ≡ head_text ++ (framed (symbols_body (symbols rows)) ++ behind_one)
  at_none = joined (index_text rows) head_text (framed (symbols_body (symbols rows))) (to_symbols rows) behind_one at_one (symbols_section rows)

  head_is : head_of (index_text rows) ≡ Ok tt
  head_is = ap head_of at_none ∙ head_again (framed (symbols_body (symbols rows)) ++ behind_one)

  abbrev places_text : Toc
  places_text = record {
    symbols = length head_text;
    series = length (to_symbols rows);
    label_indices = length (to_series rows);
    label_table = length (to_postings rows);
    postings = length (to_label_indices rows);
    postings_table = length (to_label_table rows);
  }

  l1 : length head_text + length (framed (symbols_body (symbols rows))) ≡ length (to_symbols rows)
  l1 = longer head_text (framed (symbols_body (symbols rows))) (to_symbols rows) (symbols_section rows)

  l2 : length (to_symbols rows) + length (laid 16 (length (to_symbols rows)) (series_elements rows)) ≡ length (to_series rows)
  l2 = longer (to_symbols rows) (laid 16 (length (to_symbols rows)) (series_elements rows)) (to_series rows) (series_section rows)

  l3 : length (to_series rows) + length (laid 4 (length (to_series rows)) (label_indices rows)) ≡ length (to_label_indices rows)
  l3 = longer (to_series rows) (laid 4 (length (to_series rows)) (label_indices rows)) (to_label_indices rows) (label_indices_section rows)

  l4 : length (to_label_indices rows) + length (laid 4 (length (to_label_indices rows)) (postings rows)) ≡ length (to_postings rows)
  l4 = longer (to_label_indices rows) (laid 4 (length (to_label_indices rows)) (postings rows)) (to_postings rows) (postings_section rows)

  l5 : length (to_postings rows) + length (framed (label_table_body (label_entries rows))) ≡ length (to_label_table rows)
  l5 = longer (to_postings rows) (framed (label_table_body (label_entries rows))) (to_label_table rows) (label_table_section rows)

  l6 : length (to_label_table rows) + length (framed (postings_table_body (postings_entries rows))) ≡ length (to_postings_table rows)
  l6 = longer (to_label_table rows) (framed (postings_table_body (postings_entries rows))) (to_postings_table rows) (postings_table_section rows)

  l7 : length (to_postings_table rows) ≤ length (index_text rows)
  l7 = no_longer (index_text rows) (to_postings_table rows) tail at_six

  toc_bytes : IsBytes (text_of places_text)
  unfolding toc
  toc_bytes = IsBytes-left (toc rows) (sum_text (toc rows)) (IsBytes-right (to_postings_table rows) tail (subst IsBytes at_six bytes))

  in_order : are_places places_text (length (to_postings_table rows)) ≡ true
  in_order =
      let o1 : leb (length head_text) (length (to_symbols rows)) ≡ true = le-leb (length head_text) (length (to_symbols rows)) (omega (arith, l1)) in
      let o2 : leb (length (to_symbols rows)) (length (to_series rows)) ≡ true = le-leb (length (to_symbols rows)) (length (to_series rows)) (omega (arith, l2)) in
      let o3 : leb (length (to_series rows)) (length (to_label_indices rows)) ≡ true = le-leb (length (to_series rows)) (length (to_label_indices rows)) (omega (arith, l3)) in
      let o4 : leb (length (to_label_indices rows)) (length (to_postings rows)) ≡ true = le-leb (length (to_label_indices rows)) (length (to_postings rows)) (omega (arith, l4)) in
      let o5 : leb (length (to_postings rows)) (length (to_label_table rows)) ≡ true = le-leb (length (to_postings rows)) (length (to_label_table rows)) (omega (arith, l5)) in
      let o6 : leb (length (to_label_table rows)) (length (to_postings_table rows)) ≡ true = le-leb (length (to_label_table rows)) (length (to_postings_table rows)) (omega (arith, l6)) in
      rw (o1, o2, o3, o4, o5, o6) refl

  toc_is : toc_of (index_text rows) ≡ Ok places_text
  unfolding toc
  toc_is = ap toc_of at_six ∙ toc_again (to_postings_table rows) places_text (record {
    symbols_fits = omega arith;
    series_fits = omega (arith, l2, l3, l4, l5, l6, l7, short);
    label_indices_fits = omega (arith, l3, l4, l5, l6, l7, short);
    postings_fits = omega (arith, l4, l5, l6, l7, short);
    label_table_fits = omega (arith, l5, l6, l7, short);
    postings_table_fits = omega (arith, l6, l7, short);
  }) toc_bytes (omega (arith, l1, l2, l3, l4, l5, l6)) in_order

  few_symbols : length (symbols rows) < 2 ^ 32
  few_symbols = omega (arith, length-symbols_body (symbols rows), fits.symbols_fit)

  long_symbols : AllByRecursion IsLong (symbols rows)
  unfolding symbols_body
  long_symbols =
      all_weaker (λ t. length (text t) ≤ length (symbols_body (symbols rows))) IsLong (λ t le. omega (arith, le, length-append (uvarint (length t)) t, fits.symbols_fit)) (symbols rows)
      (each_shorter text (length (symbols_body (symbols rows))) (symbols rows) (omega (arith, length-append (big_bytes 4 (length (symbols rows))) (flat_map text (symbols rows)))))

  symbols_are : only_element symbols_field (between (length head_text) (length (to_symbols rows)) (index_text rows)) ≡ Ok (symbols rows)
  symbols_are =
      ap (only_element symbols_field) (cut (index_text rows) head_text (framed (symbols_body (symbols rows))) (to_symbols rows) behind_one at_one (symbols_section rows))
      ∙ only_element_again symbols_field (symbols_body (symbols rows)) (symbols rows)
      (framed_bytes (symbols_body (symbols rows)) (part_bytes (index_text rows) head_text (framed (symbols_body (symbols rows))) (to_symbols rows) behind_one at_one (symbols_section rows) bytes))
      fits.symbols_fit (symbols-again (symbols rows) [] few_symbols long_symbols)

  -- a row that is read again
  abbrev IsReadRow : IndexRow → Type 0
  IsReadRow r = IsRow r × (length (series_body (symbols rows) r) < 2 ^ 32) × IsBytes (series_body (symbols rows) r) × AllByRecursion (AreNamed (symbols rows)) r.labels

  series_bytes : AllByRecursion (λ (r : IndexRow). IsBytes (series_body (symbols rows) r)) rows
  series_bytes =
      all_weaker (λ (r : IndexRow). IsBytes (counted (series_body (symbols rows) r))) (λ (r : IndexRow). IsBytes (series_body (symbols rows) r)) (λ r h. counted_bytes (series_body (symbols rows) r) h) rows
      (bodies IsBytes (λ (r : IndexRow). counted (series_body (symbols rows) r)) rows
      (laid_bytes 16 (length (to_symbols rows)) (series_elements rows)
      (part_bytes (index_text rows) (to_symbols rows) (laid 16 (length (to_symbols rows)) (series_elements rows)) (to_series rows) behind_two at_two (series_section rows) bytes)))

  read_rows : AllByRecursion IsReadRow rows
  read_rows =
      all_both IsRow (λ r. (length (series_body (symbols rows) r) < 2 ^ 32) × IsBytes (series_body (symbols rows) r) × AllByRecursion (AreNamed (symbols rows)) r.labels) IsReadRow (λ r a b. (a, b.0, b.1, b.2)) rows are.each
      (all_both (λ r. length (series_body (symbols rows) r) < 2 ^ 32) (λ r. IsBytes (series_body (symbols rows) r) × AllByRecursion (AreNamed (symbols rows)) r.labels) (λ r. (length (series_body (symbols rows) r) < 2 ^ 32) × IsBytes (series_body (symbols rows) r) × AllByRecursion (AreNamed (symbols rows)) r.labels) (λ r a b. (a, b.0, b.1)) rows fits.series_fit
      (all_both (λ r. IsBytes (series_body (symbols rows) r)) (λ r. AllByRecursion (AreNamed (symbols rows)) r.labels) (λ r. IsBytes (series_body (symbols rows) r) × AllByRecursion (AreNamed (symbols rows)) r.labels) (λ r a b. (a, b)) rows series_bytes (rows_named rows)))

  row_read : (r : IndexRow) → IsReadRow r → (0 < length (counted (series_body (symbols rows) r))) × IsReadAt 16 (length (to_series rows)) (series_element_at (length (symbols rows)) (length (to_series rows))) (counted (series_body (symbols rows) r)) (stored_of (symbols rows) r)
  row_read r h = (
    omega (arith, length-append (uvarint (length (series_body (symbols rows) r)) ++ series_body (symbols rows) r) (sum_text (series_body (symbols rows) r)), sum_length (series_body (symbols rows) r)),
    series_element_again (length (symbols rows)) (length (to_series rows)) (symbols rows) r (omega (arith, few_symbols)) (omega (arith, labels_shorter (symbols rows) r, h.1)) (omega (arith, chunks_shorter (symbols rows) r, h.1))
        (within_all (symbols rows) (symbols_ascend rows) r.labels h.3) (are_chunks r.chunks h.0.fit h.0.forward h.0.apart) h.2 (omega (arith, h.1)),
  )

  series_are : all_elements (series_element_at (length (symbols rows)) (length (to_series rows))) (between (length (to_symbols rows)) (length (to_series rows)) (index_text rows)) ≡ Ok (map (stored_of (symbols rows)) rows)
  series_are =
      ap (all_elements (series_element_at (length (symbols rows)) (length (to_series rows)))) (cut (index_text rows) (to_symbols rows) (laid 16 (length (to_symbols rows)) (series_elements rows)) (to_series rows) behind_two at_two (series_section rows))
      ∙ elements_again 16 (length (to_series rows)) (series_element_at (length (symbols rows)) (length (to_series rows))) (series_elements rows) (map (stored_of (symbols rows)) rows) (length (to_symbols rows)) (length (laid 16 (length (to_symbols rows)) (series_elements rows)))
      (all_read 16 (length (to_series rows)) (series_element_at (length (symbols rows)) (length (to_series rows))) (λ (r : IndexRow). counted (series_body (symbols rows) r)) (stored_of (symbols rows)) IsReadRow row_read rows read_rows)
      l2 (omega arith)

  -- ---- elements that are not kept

  passed_all : {X : Type 0} (done : List ℕ → Result (Unit {0}) ReadFault) (end : ℕ) (f : X → Text) (xs : List X) → AllByRecursion (λ x. (done (f x) ≡ Ok tt) × IsBytes (f x) × (length (f x) < 2 ^ 32)) xs → ArePassedAt end (framed_done done end) (map (λ x. framed (f x)) xs)
  passed_all done end f [] h = tt
  passed_all done end f (x ∷ xs) h =
      (omega (arith, length-append (big_bytes 4 (length (f x)) ++ f x) (sum_text (f x)), sum_length (f x)), framed_done_again done end (f x) h.0.0 h.0.1 h.0.2, passed_all done end f xs h.1)

  abbrev index_of : Text → Text
  index_of name = label_index_body (symbols rows) (values_of (pairs rows) name)

  values_named : (name : Text) → AllByRecursion (λ n. (n < length (symbols rows)) × (n < 2 ^ 32)) (map (λ v. rank text_cmp v (symbols rows)) (values_of (pairs rows) name))
  values_named name =
      all_map (λ n. (n < length (symbols rows)) × (n < 2 ^ 32)) (λ v. rank text_cmp v (symbols rows)) (values_of (pairs rows) name)
      (all_map (λ v. (rank text_cmp v (symbols rows) < length (symbols rows)) × (rank text_cmp v (symbols rows) < 2 ^ 32)) (λ (p : Label). p.value) (members (λ (p : Label). p.name) text_cmp (pairs rows) name)
      (all_filter (λ (p : Label). (rank text_cmp p.value (symbols rows) < length (symbols rows)) × (rank text_cmp p.value (symbols rows) < 2 ^ 32)) (λ (p : Label). is_eq (text_cmp p.name name)) (pairs rows)
      (all_weaker (AreNamed (symbols rows)) (λ (p : Label). (rank text_cmp p.value (symbols rows) < length (symbols rows)) × (rank text_cmp p.value (symbols rows) < 2 ^ 32))
      (λ p h. let inside = rank-within text_cmp (strict text_total) p.value (symbols rows) (symbols_ascend rows) h.1 in (inside, omega (arith, inside, few_symbols))) (pairs rows) (pairs_named rows))))

  index_bytes : AllByRecursion (λ name. IsBytes (index_of name)) (names rows)
  unfolding label_indices names
  index_bytes =
      all_weaker (λ name. IsBytes (framed (index_of name))) (λ name. IsBytes (index_of name)) (λ name h. framed_bytes (index_of name) h) (names_in (pairs rows))
      (bodies IsBytes (λ name. framed (index_of name)) (names_in (pairs rows))
      (laid_bytes 4 (length (to_series rows)) (label_indices rows)
      (part_bytes (index_text rows) (to_series rows) (laid 4 (length (to_series rows)) (label_indices rows)) (to_label_indices rows) behind_three at_three (label_indices_section rows) bytes)))

  indices_pass : ArePassedAt (length (to_label_indices rows)) (framed_done (label_index_done (length (symbols rows))) (length (to_label_indices rows))) (label_indices rows)
  unfolding label_indices names
  indices_pass =
      passed_all (label_index_done (length (symbols rows))) (length (to_label_indices rows)) index_of (names_in (pairs rows))
      (all_both (λ name. IsBytes (index_of name)) (λ name. length (index_of name) < 2 ^ 32) (λ name. (label_index_done (length (symbols rows)) (index_of name) ≡ Ok tt) × IsBytes (index_of name) × (length (index_of name) < 2 ^ 32))
      (λ name b n. (label_index_done-again (length (symbols rows)) (symbols rows) (values_of (pairs rows) name) (omega (arith, n, length-label_index_body (symbols rows) (values_of (pairs rows) name))) (values_named name), b, n))
      (names_in (pairs rows)) index_bytes fits.label_indices_fit)

  label_indices_are : elements_done (framed_done (label_index_done (length (symbols rows))) (length (to_label_indices rows))) (length (between (length (to_series rows)) (length (to_label_indices rows)) (index_text rows))) (between (length (to_series rows)) (length (to_label_indices rows)) (index_text rows)) ≡ Ok tt
  label_indices_are =
      ap (λ x. elements_done (framed_done (label_index_done (length (symbols rows))) (length (to_label_indices rows))) (length x) x) (cut (index_text rows) (to_series rows) (laid 4 (length (to_series rows)) (label_indices rows)) (to_label_indices rows) behind_three at_three (label_indices_section rows))
      ∙ elements_done_again (length (to_label_indices rows)) (framed_done (label_index_done (length (symbols rows))) (length (to_label_indices rows))) (label_indices rows) (length (to_series rows)) (length (laid 4 (length (to_series rows)) (label_indices rows))) indices_pass l3 (omega arith)

  small_ids : (p : Label) → AllByRecursion (λ n. n < 2 ^ 32) (ids_with rows p)
  small_ids p =
      all_map (λ n. n < 2 ^ 32) (λ (x : ℕ × IndexRow). x.0) (filter (λ (x : ℕ × IndexRow). has_pair p x.1) (zip (series_ids rows) rows))
      (all_filter (λ (x : ℕ × IndexRow). x.0 < 2 ^ 32) (λ (x : ℕ × IndexRow). has_pair p x.1) (zip (series_ids rows) rows) (zip_left (λ n. n < 2 ^ 32) (series_ids rows) rows fits.ids_fit))

  postings_bytes : IsBytes (framed (postings_body (series_ids rows))) × AllByRecursion (λ p. IsBytes (framed (postings_body (ids_with rows p)))) (pairs rows)
  unfolding postings
  postings_bytes =
      let all = laid_bytes 4 (length (to_label_indices rows)) (postings rows) (part_bytes (index_text rows) (to_label_indices rows) (laid 4 (length (to_label_indices rows)) (postings rows)) (to_postings rows) behind_four at_four (postings_section rows) bytes) in
      (all.0, bodies IsBytes (λ p. framed (postings_body (ids_with rows p))) (pairs rows) all.1)

  lists_pass : ArePassedAt (length (to_postings rows)) (framed_done postings_done (length (to_postings rows))) (postings rows)
  unfolding postings
  lists_pass = (
    omega (arith, length-append (big_bytes 4 (length (postings_body (series_ids rows))) ++ postings_body (series_ids rows)) (sum_text (postings_body (series_ids rows))), sum_length (postings_body (series_ids rows))),
    framed_done_again postings_done (length (to_postings rows)) (postings_body (series_ids rows)) (postings_done-again (series_ids rows) (omega (arith, fits.everything_fits, length-postings_body (series_ids rows))) fits.ids_fit) (framed_bytes (postings_body (series_ids rows)) postings_bytes.0) fits.everything_fits,
    passed_all postings_done (length (to_postings rows)) (λ p. postings_body (ids_with rows p)) (pairs rows)
        (all_both (λ p. IsBytes (framed (postings_body (ids_with rows p)))) (λ p. length (postings_body (ids_with rows p)) < 2 ^ 32) (λ p. (postings_done (postings_body (ids_with rows p)) ≡ Ok tt) × IsBytes (postings_body (ids_with rows p)) × (length (postings_body (ids_with rows p)) < 2 ^ 32))
        (λ p b n. (postings_done-again (ids_with rows p) (omega (arith, n, length-postings_body (ids_with rows p))) (small_ids p), framed_bytes (postings_body (ids_with rows p)) b, n)) (pairs rows) postings_bytes.1 fits.postings_fit),
  )

  postings_are : elements_done (framed_done postings_done (length (to_postings rows))) (length (between (length (to_label_indices rows)) (length (to_postings rows)) (index_text rows))) (between (length (to_label_indices rows)) (length (to_postings rows)) (index_text rows)) ≡ Ok tt
  postings_are =
      ap (λ x. elements_done (framed_done postings_done (length (to_postings rows))) (length x) x) (cut (index_text rows) (to_label_indices rows) (laid 4 (length (to_label_indices rows)) (postings rows)) (to_postings rows) behind_four at_four (postings_section rows))
      ∙ elements_done_again (length (to_postings rows)) (framed_done postings_done (length (to_postings rows))) (postings rows) (length (to_label_indices rows)) (length (laid 4 (length (to_label_indices rows)) (postings rows))) lists_pass l4 (omega arith)

  -- ---- the offset tables

  indices_put : length (put_all 4 (to_series rows) (label_indices rows)) ≡ length (to_label_indices rows)
  unfolding to_label_indices
  indices_put = refl

  lists_put : length (put_all 4 (to_label_indices rows) (postings rows)) ≡ length (to_postings rows)
  unfolding to_postings
  lists_put = refl

  label_entries_fit : AllByRecursion FitsEntry (label_entries rows)
  unfolding label_table_body
  label_entries_fit =
      all_both (λ (x : Text × ℕ). length (label_entry x) ≤ length (label_table_body (label_entries rows))) (λ (x : Text × ℕ). x.1 ≤ length (put_all 4 (to_series rows) (label_indices rows))) FitsEntry
      (λ x a b. (omega (arith, a, fits.label_table_fits, length-append (text x.0) (uvarint x.1), length-append (uvarint (length x.0)) x.0), omega (arith, b, indices_put, l4, l5, l6, l7, short)))
      (label_entries rows)
      (each_shorter label_entry (length (label_table_body (label_entries rows))) (label_entries rows) (omega (arith, length-append (big_bytes 4 (length (label_entries rows))) (flat_map label_entry (label_entries rows)))))
      (zip_right (λ n. n ≤ length (put_all 4 (to_series rows) (label_indices rows))) (names rows) (places 4 (to_series rows) (label_indices rows)) (places_within 4 (to_series rows) (label_indices rows)))

  postings_entries_fit : AllByRecursion FitsPostings (postings_entries rows)
  unfolding postings_table_body
  postings_entries_fit =
      all_both (λ (x : Label × ℕ). length (postings_entry x) ≤ length (postings_table_body (postings_entries rows))) (λ (x : Label × ℕ). x.1 ≤ length (put_all 4 (to_label_indices rows) (postings rows))) FitsPostings
      (λ x a b. (
        omega (arith, a, fits.postings_table_fits, length-append (text x.0.name ++ text x.0.value) (uvarint x.1), length-append (text x.0.name) (text x.0.value), length-append (uvarint (length x.0.name)) x.0.name),
        omega (arith, a, fits.postings_table_fits, length-append (text x.0.name ++ text x.0.value) (uvarint x.1), length-append (text x.0.name) (text x.0.value), length-append (uvarint (length x.0.value)) x.0.value),
        omega (arith, b, lists_put, l5, l6, l7, short),
      ))
      (postings_entries rows)
      (each_shorter postings_entry (length (postings_table_body (postings_entries rows))) (postings_entries rows) (omega (arith, length-append (big_bytes 4 (length (postings_entries rows))) (flat_map postings_entry (postings_entries rows)))))
      (zip_right (λ n. n ≤ length (put_all 4 (to_label_indices rows) (postings rows))) (everything ∷ pairs rows) (places 4 (to_label_indices rows) (postings rows)) (places_within 4 (to_label_indices rows) (postings rows)))

  label_table_is : only_done label_table_done (between (length (to_postings rows)) (length (to_label_table rows)) (index_text rows)) ≡ Ok tt
  label_table_is =
      ap (only_done label_table_done) (cut (index_text rows) (to_postings rows) (framed (label_table_body (label_entries rows))) (to_label_table rows) (framed (postings_table_body (postings_entries rows)) ++ tail) at_five (label_table_section rows))
      ∙ only_done_again label_table_done (label_table_body (label_entries rows)) (label_table_done-again (label_entries rows) (omega (arith, fits.label_table_fits, length-label_table_body (label_entries rows))) label_entries_fit)
      (framed_bytes (label_table_body (label_entries rows)) (part_bytes (index_text rows) (to_postings rows) (framed (label_table_body (label_entries rows))) (to_label_table rows) (framed (postings_table_body (postings_entries rows)) ++ tail) at_five (label_table_section rows) bytes)) fits.label_table_fits

  tail_length : length (index_text rows) - 52 ≡ length (to_postings_table rows)
  unfolding toc
  tail_length = omega (arith, ap length at_six, length-append (to_postings_table rows) tail, length-append (toc rows) (sum_text (toc rows)), sum_length (toc rows))

  postings_table_is : only_done postings_table_done (between (length (to_label_table rows)) (length (index_text rows) - 52) (index_text rows)) ≡ Ok tt
  postings_table_is =
      ap (λ n. only_done postings_table_done (between (length (to_label_table rows)) n (index_text rows))) tail_length
      ∙ ap (only_done postings_table_done) (cut (index_text rows) (to_label_table rows) (framed (postings_table_body (postings_entries rows))) (to_postings_table rows) tail at_six (postings_table_section rows))
      ∙ only_done_again postings_table_done (postings_table_body (postings_entries rows)) (postings_table_done-again (postings_entries rows) (omega (arith, fits.postings_table_fits, length-postings_table_body (postings_entries rows))) postings_entries_fit)
      (framed_bytes (postings_table_body (postings_entries rows)) (part_bytes (index_text rows) (to_label_table rows) (framed (postings_table_body (postings_entries rows))) (to_postings_table rows) tail at_six (postings_table_section rows) bytes)) fits.postings_table_fits

  pub rows_again : rows_in (index_text rows) ≡ Ok rows
  unfolding rows_in
  rows_again =
      let all = stored_from (index_text rows) places_text (symbols rows) (map (stored_of (symbols rows)) rows) head_is toc_is symbols_are series_are label_indices_are postings_are label_table_is postings_table_is in
      rw (all, rows_back (symbols rows) (symbols_ascend rows) rows (rows_named rows)) refl
