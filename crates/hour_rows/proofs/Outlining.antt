-- The outlines of the rows of an hour: how they are come by, slot by slot, and whose outlines they are.
use Rattle.std.proofs.Common.{◌≡◌, ℕ, zero, suc, ◌+◌, ◌<◌, inl, inr, Bool, true, false, List, [], ◌∷◌, length, get_or, map, map-id, refl, sym, ap, subst, ◌∙◌, arith}
use Rattle.std.specs.Prelude.{ℤ, Option, None, Some, cond, filter, not, ◌==◌}
use Rattle.std.specs.List.{AllZip, cons_option, filter_map, range_with_len, zip}
use Rattle.std.specs.List.Sorted.{IsPermutation, IsSorted}
use Rattle.std.specs.declared.cmp.Ordering.{Ordering}
use Rattle.std.proofs.lemmas.Bool.{ne_eqb}
use Rattle.std.proofs.lemmas.Option.{unwrap_or-slice_get}
use Rattle.wal_record.specs.Labels.{Labels, compare_labels, same_labels}
use Rattle.wal_record.proofs.Comparing.{labels_total}
use Rattle.head_column.specs.Samples.{Sample}
use Rattle.head_column.specs.Histories.{History, no_history}
use Rattle.head_series.specs.Rows.{AreDistinct}
use Rattle.head_series.specs.Table.{labels_at}
use Rattle.head_core.specs.Content.{Content}
use Rattle.head_core.specs.Heads.{history_at}
use Rattle.index_text.specs.Sets.{ascending}
use Rattle.index_text.proofs.Ranks.{Has, ascending-of}
use Rattle.block_files.specs.declared.encoding.Encoding.{Encoding}
use Rattle.block_read.specs.declared.rows.BlockRow.{BlockRow}
use Rattle.block_read.specs.Blocks.{chunks_in}
use Rattle.hour_rows.specs.declared.outlines.RowOutline.{RowOutline}
use Rattle.hour_rows.specs.Clipping.{samples_in}
use Rattle.hour_rows.specs.Outlined.{outline_at, outline_of, series_at}
use Rattle.hour_rows.specs.Outlines.{IsOutlineOf}
use Rattle.hour_rows.specs.Rows.{has_samples, row_of, rows_of}
use Rattle.hour_rows.proofs.Orders.{AreApart, apart_map, ascending_map, by_key, sorted_is}
use Rattle.hour_rows.proofs.Picked.{Series, apart, series_cmp}

-- by slot, or side by side
by_slot : {C : Type 0} (f : ℕ → C) (g : Series → C) (at : ℕ) (ls : List Labels) (hs : List History) → length hs ≡ length ls → ((i : ℕ) → i < length ls → f (at + i) ≡ g (get_or ls i [], get_or hs i no_history))
    → map f (range_with_len at (length ls)) ≡ map g (zip ls hs)
by_slot f g at [] [] e h = refl
by_slot f g at [] (y ∷ hs) e h = refl
by_slot f g at (l ∷ ls) [] e h = absurd (omega arith)
by_slot {C} f g at (l ∷ ls) (y ∷ hs) e h =
    let here : at + 0 ≡ at = omega arith in
    let first : f at ≡ g (l, y) = ap f (sym here) ∙ h 0 (omega arith) in
    let rest : map f (range_with_len (at + 1) (length ls)) ≡ map g (zip ls hs) = by_slot f g (at + 1) ls hs (omega arith) (λ i lt.
    let there : (at + 1) + i ≡ at + suc i = omega arith in ap f there ∙ h (suc i) (omega arith)) in
    ap (λ (z : C). z ∷ map f (range_with_len (at + 1) (length ls))) first ∙ ap (λ (zs : List C). g (l, y) ∷ zs) rest

filter_map_map : {A B : Type 0} (g : A → Option B) (xs : List A) → filter_map (λ (o : Option B). o) (map g xs) ≡ filter_map g xs
filter_map_map g [] = refl
filter_map_map {A} {B} g (x ∷ xs) = ap (λ (bs : List B). cons_option (g x) bs) (filter_map_map g xs)

not_zero : (n : ℕ) → 0 < n → (n == 0) ≡ false
not_zero n h = ne_eqb n 0 (λ e. omega arith)

-- there are chunks if there are samples
as_empty : (e : Encoding) (xs : List Sample) → (length (chunks_in e xs) == 0) ≡ (length xs == 0)
as_empty e [] = refl
as_empty e (x ∷ xs) = not_zero (length (chunks_in e (x ∷ xs))) (omega arith) ∙ sym (not_zero (length (x ∷ xs)) (omega arith))

module _ (e : Encoding) (k : ℤ) (c : Content) where
  abbrev slots : List ℕ
  slots = range_with_len 0 (length c.table.series)

  abbrev slot_cmp : ℕ → ℕ → Ordering
  slot_cmp = by_key (λ (slot : ℕ). labels_at c.table slot) compare_labels labels_total

  -- the series of all slots are all series
  all_series : length c.histories ≡ length c.table.series → map (series_at c) slots ≡ zip c.table.series c.histories
  all_series each =
      by_slot (series_at c) (λ (s : Series). s) 0 c.table.series c.histories each (λ i lt.
      let here : 0 + i ≡ i = omega arith in
      ap (series_at c) here ∙ ap (λ (h : History). (labels_at c.table i, h)) (unwrap_or-slice_get c.histories i no_history))
      ∙ map-id (zip c.table.series c.histories)

  below : (at n i : ℕ) → Has slot_cmp i (range_with_len at n) → i < at + n
  below at zero i m = absurd m
  below at (suc n) i (inl same) = omega (arith, same)
  below at (suc n) i (inr m) = omega (arith, below (at + 1) n i m)

  outline_label : (slot : ℕ) (o : RowOutline) → outline_at e k c slot ≡ Some o → o.labels ≡ labels_at c.table slot
  outline_label slot o is = by (length (chunks_in e (samples_in k (history_at c slot).samples)) == 0) is where
    by : (b : Bool) → cond b None (Some (outline_of e k c slot)) ≡ Some o → o.labels ≡ labels_at c.table slot
    by true f = absurd cc
    by false f = let same : outline_of e k c slot ≡ o = cc in ap (λ (q : RowOutline). q.labels) (sym same)

  -- a slot has an outline if its series has a row
  one_outline : (slot : ℕ) (os : List RowOutline) (rows : List BlockRow) (a b : Bool) → a ≡ b → slot < length c.table.series → AllZip (IsOutlineOf e k c) os rows
      → AllZip (IsOutlineOf e k c) (cons_option (cond a None (Some (outline_of e k c slot))) os) (cond (not b) (row_of k (series_at c slot) ∷ rows) rows)
  one_outline slot os rows true true same lt rest = rest
  one_outline slot os rows true false same lt rest = absurd cc
  one_outline slot os rows false true same lt rest = absurd cc
  one_outline slot os rows false false same lt rest = (record { slot = lt; samples = refl; labels = refl; chunks = refl; hidden = refl }, rest)

  outlined : (those : List ℕ) → ((slot : ℕ) → Has slot_cmp slot those → slot < length c.table.series)
      → AllZip (IsOutlineOf e k c) (filter_map (outline_at e k c) those) (filter has_samples (map (row_of k) (map (series_at c) those)))
  outlined [] h = tt
  outlined (slot ∷ more) h =
      let samples = samples_in k (history_at c slot).samples in
      one_outline slot (filter_map (outline_at e k c) more) (filter has_samples (map (row_of k) (map (series_at c) more))) (length (chunks_in e samples) == 0) (length samples == 0) (as_empty e samples)
      (h slot (inl refl)) (outlined more (λ s m. h s (inr m)))

  -- The outlines that the code keeps and sorts are those of the rows of the hour.
  sorted_outlines : (outlines : List RowOutline) → length c.histories ≡ length c.table.series → AreDistinct same_labels c.table.series → IsPermutation (filter_map (outline_at e k c) slots) outlines
      → IsSorted (λ (a b : RowOutline). compare_labels a.labels b.labels) outlines → AllZip (IsOutlineOf e k c) outlines (rows_of k c)
  unfolding rows_of
  sorted_outlines outlines each distinct moved sorted =
      let whole : map (series_at c) slots ≡ zip c.table.series c.histories = all_series each in
      let distinct_slots : AreApart (λ (slot : ℕ). labels_at c.table slot) compare_labels labels_total slots =
      apart_map (series_at c) (λ (s : Series). s.0) compare_labels labels_total slots (subst (AreApart (λ (s : Series). s.0) compare_labels labels_total) (sym whole) (apart c.table.series c.histories distinct)) in
      let is : outlines ≡ filter_map (outline_at e k c) (ascending slot_cmp slots) =
      sorted_is (λ (slot : ℕ). labels_at c.table slot) (λ (o : RowOutline). o.labels) compare_labels labels_total (outline_at e k c) outline_label slots outlines distinct_slots moved sorted in
      let series : map (series_at c) (ascending slot_cmp slots) ≡ ascending series_cmp (zip c.table.series c.histories) = sym (ascending_map (series_at c) series_cmp slots) ∙ ap (ascending series_cmp) whole in
      let zipped = outlined (ascending slot_cmp slots) (λ slot m. omega (arith, below 0 (length c.table.series) slot (ascending-of slot_cmp slot slots m))) in
      subst (λ (os : List RowOutline). AllZip (IsOutlineOf e k c) os (rows_of k c)) (sym is)
      (subst (λ (ss : List Series). AllZip (IsOutlineOf e k c) (filter_map (outline_at e k c) (ascending slot_cmp slots)) (filter has_samples (map (row_of k) ss))) series zipped)

  -- so they are, if the code looked for an outline at each slot
  pub picked_outlines : (n : ℕ) (each : List (Option RowOutline)) (kept outlines : List RowOutline) → n ≡ length c.table.series → length c.histories ≡ length c.table.series → AreDistinct same_labels c.table.series
      → each ≡ map (outline_at e k c) (range_with_len 0 n) → kept ≡ filter_map (λ (o : Option RowOutline). o) each → IsPermutation kept outlines → IsSorted (λ (a b : RowOutline). compare_labels a.labels b.labels) outlines
      → AllZip (IsOutlineOf e k c) outlines (rows_of k c)
  picked_outlines n each kept outlines count one_each distinct made those moved sorted =
      let all : kept ≡ filter_map (outline_at e k c) slots =
      those ∙ ap (filter_map (λ (o : Option RowOutline). o)) (made ∙ ap (λ (m : ℕ). map (outline_at e k c) (range_with_len 0 m)) count) ∙ filter_map_map (outline_at e k c) slots in
      sorted_outlines outlines one_each distinct (subst (λ (os : List RowOutline). IsPermutation os outlines) all moved) sorted
