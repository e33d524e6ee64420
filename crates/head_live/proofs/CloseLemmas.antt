-- What was told and what a head holds, a row at a time.
use Rattle.std.proofs.Common.{◌≡◌, ℕ, zero, suc, ◌+◌, ◌<◌, Bool, List, [], ◌∷◌, ◌++◌, Some, ap, sym, ◌∙◌, refl, append_assoc, arith, length, get_or, take}
use Rattle.std.specs.Prelude.{ℤ, ◌||◌, drop, filter, int_le, map, slice_get, unwrap_or}
use Rattle.std.specs.List.{enumerate_from, flat_map, list_any}
use Rattle.std.proofs.lemmas.Grind.{flat_map-append}
use Rattle.std.proofs.lemmas.List.{append-nil, length-take-le, map-append, take_more}
use Rattle.std.proofs.lemmas.List.Elements.{filter-append}
use Rattle.std.proofs.lemmas.Option.{unwrap_or-slice_get}
use Rattle.wal_record.specs.Labels.{Labels, same_labels}
use Rattle.head_column.specs.Samples.{Sample}
use Rattle.head_column.specs.Histories.{History, has_reached, latest, no_history}
use Rattle.head_column.specs.Times.{reaches}
use Rattle.head_series.specs.Texts.{place}
use Rattle.head_core.specs.Content.{Content}
use Rattle.head_core.specs.Heads.{history_at}
use Rattle.head_live.specs.declared.placed.PlacedSample.{PlacedSample}
use Rattle.head_live.specs.declared.told.Told.{Told}
use Rattle.head_live.specs.declared.verdict.Verdict.TheVariants.{Accepted}
use Rattle.head_live.specs.Agreeing.{all_told, new_rows_at, row_of_sample}
use Rattle.head_live.specs.Placing.{labels_at, row_at}
use Rattle.head_live.specs.Placed.{placed}
use Rattle.head_live.specs.Rows.{Row}
use Rattle.head_live.specs.Told.{Answer, AppenderState, accepted_rows, answer_of, row_told}
use Rattle.head_live.specs.Verdicts.{is_accepted, samples_in, samples_at}
use Rattle.head_live.proofs.SetLemmas.{at_place}
use Rattle.head_live.proofs.TimeLemmas.{reaches_greatest}

pub accepted_rows-append : (a b : List Answer) → accepted_rows (a ++ b) ≡ accepted_rows a ++ accepted_rows b
accepted_rows-append a b =
    ap (map (λ x. x.row)) (filter-append (λ x. is_accepted x.verdict) a b)
    ∙ map-append (λ (x : Answer). x.row) (filter (λ x. is_accepted x.verdict) a) (filter (λ x. is_accepted x.verdict) b)

-- after what is in a list so far
pub pushed_more : {A : Type 0} (new old : List A) (x : A) (start rows more : List A) → new ≡ old ++ x ∷ [] → old ≡ start ++ rows → more ≡ rows ++ x ∷ [] → new ≡ start ++ more
pushed_more new old x start rows more e h m = e ∙ (ap (λ r. r ++ x ∷ []) h ∙ (append_assoc start rows (x ∷ []) ∙ ap (λ r. start ++ r) (sym m)))

-- the rows of the samples of a slot more
pub placed_rows : (c : Content) (slot : ℕ) (new old : List PlacedSample) (xs : List Sample) → new ≡ old ++ map (placed slot) xs
    → map (row_at c) new ≡ map (row_at c) old ++ map (row_of_sample (labels_at c slot)) xs
placed_rows c slot new old xs e = ap (map (row_at c)) e ∙ (map-append (row_at c) old (map (placed slot) xs) ∙ ap (λ r. map (row_at c) old ++ r) (rows xs)) where
  rows : (ys : List Sample) → map (row_at c) (map (placed slot) ys) ≡ map (row_of_sample (labels_at c slot)) ys
  rows [] = refl
  rows (y ∷ ys) = ap (λ r. row_of_sample (labels_at c slot) y ∷ r) (rows ys)

-- ---- a row that was told

-- the series in which a label set is found has its labels
pub found_labels : (c : Content) (l : Labels) (slot : ℕ) → place (same_labels l) c.table.series ≡ Some slot → labels_at c slot ≡ l
found_labels c l slot p = ap (λ o. unwrap_or o []) (at_place l c.table.series slot p)

-- an accepted row, as it is placed
pub placed_row : (c : Content) (t : Told) (slot : ℕ) (old new : List PlacedSample) → place (same_labels t.labels.value) c.table.series ≡ Some slot → t.verdict ≡ Accepted
    → new ≡ old ++ record { slot = slot; time = t.time; value = t.value } ∷ [] → map (row_at c) new ≡ map (row_at c) old ++ accepted_rows (answer_of t ∷ [])
placed_row c t slot old new p v e =
    let row : Labels → Row = λ l. record { labels = l; time = t.time; value = t.value } in
    let one : accepted_rows (answer_of t ∷ []) ≡ row_told t ∷ [] = ap (λ w. accepted_rows (record { row = row_told t; verdict = w } ∷ [])) v in
    ap (map (row_at c)) e
    ∙ (map-append (row_at c) old (record { slot = slot; time = t.time; value = t.value } ∷ [])
    ∙ ap (λ r. map (row_at c) old ++ r) (ap (λ l. row l ∷ []) (found_labels c t.labels.value slot p) ∙ sym one))

reached_times : (xs : List Sample) (t : ℤ) → has_reached xs t ≡ list_any (int_le t) (map (λ s. s.time) xs)
reached_times [] t = refl
reached_times (x ∷ xs) t = ap (λ b. int_le t x.time || b) (reached_times xs t)

-- the samples of the series in which a label set is found
pub found_reached : (c : Content) (l : Labels) (slot : ℕ) (t : ℤ) (b : Bool) → place (same_labels l) c.table.series ≡ Some slot → reaches (latest (history_at c slot).samples) t ≡ b → has_reached (samples_in c l) t ≡ b
found_reached c l slot t b p h =
    ap (λ o. has_reached (samples_at c o) t) p
    ∙ (reached_times (history_at c slot).samples t
    ∙ (reaches_greatest (map (λ s. s.time) (history_at c slot).samples) t ∙ h))

-- ---- the samples past the opening

-- how many samples a slot had
pub opened_at : (hs : List History) (slot : ℕ) → unwrap_or (slice_get (map (λ h. length h.samples) hs) slot) 0 ≡ length (unwrap_or (slice_get hs slot) no_history).samples
opened_at [] slot = refl
opened_at (h ∷ hs) zero = refl
opened_at (h ∷ hs) (suc slot) = opened_at hs slot

enumerate_from-push : {A : Type 0} (n : ℕ) (xs : List A) (x : A) → enumerate_from n (xs ++ x ∷ []) ≡ enumerate_from n xs ++ (n + length xs, x) ∷ []
enumerate_from-push n [] x = ap (λ m. (m, x) ∷ []) (let k : n ≡ n + 0 = omega arith in k)
enumerate_from-push n (y ∷ ys) x =
    ap (λ zs. (n, y) ∷ zs) (enumerate_from-push (n + 1) ys x)
    ∙ ap (λ m. (n, y) ∷ (enumerate_from (n + 1) ys ++ (m, x) ∷ [])) (let k : (n + 1) + length ys ≡ n + suc (length ys) = omega arith in k)

-- a slot with its labels more
pub numbered_more : (xs : List Labels) (n : ℕ) → n < length xs → enumerate_from 0 (take (n + 1) xs) ≡ enumerate_from 0 (take n xs) ++ (n, unwrap_or (slice_get xs n) []) ∷ []
numbered_more xs n h =
    let long : length (take n xs) ≡ n = length-take-le n xs (omega (arith, h)) in
    let at : 0 + length (take n xs) ≡ n = omega (arith, long) in
    let l : get_or xs n [] ≡ unwrap_or (slice_get xs n) [] = sym (unwrap_or-slice_get xs n []) in
    ap (enumerate_from 0) (take_more xs n [] h)
    ∙ (enumerate_from-push 0 (take n xs) (get_or xs n [])
    ∙ (ap (λ m. enumerate_from 0 (take n xs) ++ (m, get_or xs n []) ∷ []) at
    ∙ ap (λ y. enumerate_from 0 (take n xs) ++ (n, y) ∷ []) l))

-- the new rows of a slot more
pub new_rows_more : (opening now : Content) (n first : ℕ) (old new : List Row) → n < length now.table.series → first ≡ length (history_at opening n).samples
    → old ≡ flat_map (new_rows_at opening now) (enumerate_from 0 (take n now.table.series)) → new ≡ old ++ map (row_of_sample (labels_at now n)) (drop first (history_at now n).samples)
    → new ≡ flat_map (new_rows_at opening now) (enumerate_from 0 (take (n + 1) now.table.series))
new_rows_more opening now n first old new h f o e =
    let F : ℕ × Labels → List Row = new_rows_at opening now in
    let front : List (ℕ × Labels) = enumerate_from 0 (take n now.table.series) in
    let one : flat_map F ((n, labels_at now n) ∷ []) ≡ F (n, labels_at now n) = append-nil (F (n, labels_at now n)) in
    e
    ∙ (ap (λ k. old ++ map (row_of_sample (labels_at now n)) (drop k (history_at now n).samples)) f
    ∙ (ap (λ r. r ++ F (n, labels_at now n)) o
    ∙ (ap (λ r. flat_map F front ++ r) (sym one)
    ∙ (sym (flat_map-append F front ((n, labels_at now n) ∷ []))
    ∙ ap (flat_map F) (sym (numbered_more now.table.series n h))))))

-- ---- appenders

-- what one appender more was told
pub told_more_by : (all : List AppenderState) (i : ℕ) (x : AppenderState) → i < length all → x ≡ get_or all i x → all_told (take (i + 1) all) ≡ all_told (take i all) ++ x.told
told_more_by all i x h is =
    let one : all_told (get_or all i x ∷ []) ≡ x.told = append-nil (get_or all i x).told ∙ ap (λ y. y.told) (sym is) in
    ap all_told (take_more all i x h)
    ∙ (flat_map-append (λ (a : AppenderState). a.told) (take i all) (get_or all i x ∷ []) ∙ ap (λ r. all_told (take i all) ++ r) one)
