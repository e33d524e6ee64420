-- The ids of an index's series ascend, and there is one for each row.
use Rattle.std.proofs.Common.{◌≡◌, ℕ, zero, suc, ◌+◌, ◌/◌, ◌<◌, List, [], ◌∷◌, ◌++◌, length, map, take, get_or, sym, ap, ◌∙◌, add-one, arith}
use Rattle.std.specs.List.{range_with_len}
use Rattle.std.proofs.lemmas.List.{length-append, length-map, take_more, get_or-map}
use Rattle.std.proofs.lemmas.List.FromFn.{get_or-map-range_with_len, length-range_with_len}
use Rattle.hw_bytes.specs.Writing.{uvarint}
use Rattle.hw_bytes.proofs.Lists.{fold-push}
use Rattle.hw_bytes.specs.Sums.{Text, sum_text}
use Rattle.hw_bytes.proofs.SumLaws.{sum_length}
use Rattle.index_text.specs.declared.row.IndexRow.{IndexRow}
use Rattle.index_text.specs.Layout.{counted, padding, place, places, put, put_all}
use Rattle.index_text.specs.Index.{series_body, series_elements, series_ids, symbols, to_symbols}
use Rattle.index_text.specs.Rows.{IsChain}
use Rattle.head_column.specs.declared.items.Run.{Run}
use Rattle.block_read.specs.Blocks.{HasHidden}
use Rattle.block_read.specs.Reading.{HaveRuns}
use Rattle.index_text.proofs.Laid.{length-put}

chain_of : (xs : List ℕ) → ((i : ℕ) → suc i < length xs → get_or xs i 0 < get_or xs (suc i) 0) → IsChain (λ a b. a < b) xs
chain_of [] h = tt
chain_of (x ∷ []) h = tt
chain_of (x ∷ y ∷ xs) h = (h 0 (omega arith), chain_of (y ∷ xs) (λ i lt. h (suc i) (omega (arith, lt))))

-- the text before the next element
next_text : (before : Text) (es : List Text) (i : ℕ) → i < length es → length (put_all 16 before (take (suc i) es)) ≡ length (put_all 16 before (take i es)) + padding 16 (length (put_all 16 before (take i es))) + length (get_or es i [])
next_text before es i lt =
    let more : take (suc i) es ≡ take i es ++ get_or es i [] ∷ [] = rw add-one at (take_more es i [] lt) in
    ap (λ (ts : List Text). length (put_all 16 before ts)) more ∙ ap length (fold-push (put 16) before (take i es) (get_or es i [])) ∙ length-put 16 (put_all 16 before (take i es)) (get_or es i [])

sixteens : (m n k : ℕ) → 0 < k → n ≡ m + padding 16 m + k → (m + padding 16 m) / 16 < (n + padding 16 n) / 16
sixteens m n k some e = omega (arith, e)

id_at : (before : Text) (es : List Text) (i : ℕ) → i < length es → get_or (map (λ n. n / 16) (places 16 before es)) i 0 ≡ place 16 before es i / 16
id_at before es i lt =
    let count : length (places 16 before es) ≡ length es = length-map (range_with_len 0 (length es)) (place 16 before es) ∙ length-range_with_len 0 (length es) in
    get_or-map (λ n. n / 16) (places 16 before es) i 0 0 (omega (arith, lt, count)) ∙ ap (λ n. n / 16) (get_or-map-range_with_len (place 16 before es) 0 (length es) i i 0 lt (omega arith))

some_counted : (body : Text) → 0 < length (counted body)
some_counted body = omega (arith, length-append (uvarint (length body) ++ body) (sum_text body), sum_length body)

ids_of : (before : Text) (es : List Text) → ((i : ℕ) → i < length es → 0 < length (get_or es i [])) → IsChain (λ a b. a < b) (map (λ n. n / 16) (places 16 before es))
ids_of before es some = chain_of (map (λ n. n / 16) (places 16 before es)) step
  where
    step : (i : ℕ) → suc i < length (map (λ n. n / 16) (places 16 before es)) → get_or (map (λ n. n / 16) (places 16 before es)) i 0 < get_or (map (λ n. n / 16) (places 16 before es)) (suc i) 0
    step i lt =
        let count : length (map (λ n. n / 16) (places 16 before es)) ≡ length es = length-map (places 16 before es) (λ n. n / 16) ∙ length-map (range_with_len 0 (length es)) (place 16 before es) ∙ length-range_with_len 0 (length es) in
        let here : i < length es = omega (arith, lt, count) in
        let there : suc i < length es = omega (arith, lt, count) in
        let more = sixteens (length (put_all 16 before (take i es))) (length (put_all 16 before (take (suc i) es))) (length (get_or es i [])) (some i here) (next_text before es i here) in
        rw (id_at before es i here, id_at before es (suc i) there) more

pub ids_ascend : (rows : List IndexRow) → IsChain (λ a b. a < b) (series_ids rows)
unfolding series_ids
ids_ascend rows = ids_of (to_symbols rows) (series_elements rows) some
  where
    some : (i : ℕ) → i < length (series_elements rows) → 0 < length (get_or (series_elements rows) i [])
    some i lt = elem rows i (omega (arith, lt, length-map rows (λ r. counted (series_body (symbols rows) r))))
      where
        elem : (rs : List IndexRow) (i : ℕ) → i < length rs → 0 < length (get_or (map (λ r. counted (series_body (symbols rows) r)) rs) i [])
        elem [] i lt = absurd (omega (arith, lt))
        elem (r ∷ rs) zero lt = some_counted (series_body (symbols rows) r)
        elem (r ∷ rs) (suc i) lt = elem rs i (omega (arith, lt))

pub ids_count : (rows : List IndexRow) → length (series_ids rows) ≡ length rows
unfolding series_ids
ids_count rows =
    length-map (places 16 (to_symbols rows) (series_elements rows)) (λ n. n / 16) ∙ length-map (range_with_len 0 (length (series_elements rows))) (place 16 (to_symbols rows) (series_elements rows))
    ∙ length-range_with_len 0 (length (series_elements rows)) ∙ length-map rows (λ r. counted (series_body (symbols rows) r))

-- ---- the hidden runs of the rows of an index

pub hidden_is : (tombstones : Text) (rows : List IndexRow) (hidden : List (List Run)) → HaveRuns tombstones (series_ids rows) hidden → HasHidden tombstones rows hidden
hidden_is tombstones rows hidden h = record { one_each = h.one_each ∙ ids_count rows; apart = h.apart; fit = h.fit; text = h.text }

pub hidden_was : (tombstones : Text) (rows : List IndexRow) (hidden : List (List Run)) → HasHidden tombstones rows hidden → HaveRuns tombstones (series_ids rows) hidden
hidden_was tombstones rows hidden h = record { one_each = h.one_each ∙ sym (ids_count rows); apart = h.apart; fit = h.fit; text = h.text }
