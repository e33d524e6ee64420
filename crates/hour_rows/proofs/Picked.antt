-- The rows of an hour: in which order they are, and what each of them is.
use Rattle.std.proofs.Common.{◌≡◌, ℕ, zero, suc, ◌+◌, ◌<◌, inl, inr, Bool, true, false, List, [], ◌∷◌, length, get_or, map, refl, sym, ap, subst, ◌∙◌, arith, All}
use Rattle.std.specs.Prelude.{ℤ, Option, None, Some, filter, cond, not, ◌==◌, ◌||◌}
use Rattle.std.specs.List.{AllByRecursion, cons_option, filter_map, list_any, range_with_len, zip}
use Rattle.std.specs.declared.cmp.Ordering.{Ordering}
use Rattle.std.specs.declared.cmp.Ordering.TheVariants.{Less}
use Rattle.std.proofs.lemmas.Int.{ints}
use Rattle.std.proofs.lemmas.List.Elements.{All-filter, All-from_recursion, filter_passes, recursion_from_All}
use Rattle.std.proofs.lemmas.List.{get_or_default}
use Rattle.std.proofs.lemmas.Option.{unwrap_or-slice_get}
use Rattle.wal_record.specs.Labels.{IsLabelSet, Labels, compare_labels, same_labels}
use Rattle.wal_record.proofs.Comparing.{labels_equal, labels_total}
use Rattle.wal_record.proofs.Equality.{labels_same}
use Rattle.head_column.specs.Samples.{Sample}
use Rattle.head_column.specs.Chunks.{IsFit}
use Rattle.head_column.specs.Histories.{History, no_history}
use Rattle.head_column.specs.Hours.{is_in_hour}
use Rattle.head_column.specs.Samples.{Rises}
use Rattle.head_series.specs.Rows.{AreDistinct}
use Rattle.head_core.specs.Content.{Content}
use Rattle.head_core.specs.Heads.{history_at}
use Rattle.index_text.specs.Rows.{IsChain}
use Rattle.index_text.specs.Sets.{ascending}
use Rattle.index_text.proofs.Ranks.{Has, IsAscending, ascending-is, ascending-of}
use Rattle.block_read.specs.declared.rows.BlockRow.{BlockRow}
use Rattle.block_read.specs.Blocks.{IsRowOf}
use Rattle.hour_rows.specs.Clipping.{samples_in}
use Rattle.hour_rows.specs.Outlined.{IsHistory}
use Rattle.hour_rows.specs.Rows.{has_samples, row_of, rows_of}
use Rattle.hour_rows.proofs.Clips.{AreApart-runs_in, IsWithin-runs_in}
use Rattle.hour_rows.proofs.Orders.{AreApart, Differs, by_key, by_key_order, kept_ascends}

-- ---- samples of an hour rise

module _ (p : Sample → Bool) where
  skip_one : (s t : Sample) (rest : List Sample) → Rises (s ∷ t ∷ rest) → Rises (s ∷ rest)
  skip_one s t [] h = tt
  skip_one s t (u ∷ rest) h = (omega (arith, ints, h.0, h.1.0), h.1.1)

  rises_behind : (s : Sample) (xs : List Sample) → Rises (s ∷ xs) → Rises (s ∷ filter p xs)
  rises_behind s [] h = tt
  rises_behind s (t ∷ rest) h = by (p t) (rises_behind t rest h.1) (rises_behind s rest (skip_one s t rest h)) where
    by : (b : Bool) → Rises (t ∷ filter p rest) → Rises (s ∷ filter p rest) → Rises (s ∷ cond b (t ∷ filter p rest) (filter p rest))
    by true kept left_out = (h.0, kept)
    by false kept left_out = left_out

  rises_rest : (s : Sample) (xs : List Sample) → Rises (s ∷ xs) → Rises xs
  rises_rest s [] h = tt
  rises_rest s (t ∷ rest) h = h.1

  pub Rises-filter : (xs : List Sample) → Rises xs → Rises (filter p xs)
  Rises-filter [] h = tt
  Rises-filter (s ∷ xs) h = by (p s) (rises_behind s xs h) (Rises-filter xs (rises_rest s xs h)) where
    by : (b : Bool) → Rises (s ∷ filter p xs) → Rises (filter p xs) → Rises (cond b (s ∷ filter p xs) (filter p xs))
    by true kept left_out = kept
    by false kept left_out = left_out

-- ---- the series of a head, each with its history

abbrev pub Series : Type 0
Series = Labels × History

abbrev pub series_cmp : Series → Series → Ordering
series_cmp = by_key (λ (s : Series). s.0) compare_labels labels_total

-- ---- the series are distinct

or_first : (a b : Bool) → (a || b) ≡ false → a ≡ false
or_first false b h = refl
or_first true b h = h

or_second : (a b : Bool) → (a || b) ≡ false → b ≡ false
or_second false b h = h
or_second true b h = cc

differs : (l : Labels) (h : History) (ls : List Labels) (hs : List History) → list_any (same_labels l) ls ≡ false → Differs (λ (s : Series). s.0) compare_labels labels_total (l, h) (zip ls hs)
differs l h [] hs off y m e = absurd m
differs l h (m ∷ ls) [] off y n e = absurd n
differs l h (m ∷ ls) (g ∷ hs) off y (inl i) e =
    let equal : l ≡ m = (labels_equal l y.0).0 e ∙ ap (λ (s : Series). s.0) i in
    let no : same_labels l m ≡ false = or_first (same_labels l m) (list_any (same_labels l) ls) off in
    let yes : same_labels l m ≡ true = ap (same_labels l) (sym equal) ∙ labels_same.reflexive l in
    cc
differs l h (m ∷ ls) (g ∷ hs) off y (inr n) e = differs l h ls hs (or_second (same_labels l m) (list_any (same_labels l) ls) off) y n e

pub apart : (ls : List Labels) (hs : List History) → AreDistinct same_labels ls → AreApart (λ (s : Series). s.0) compare_labels labels_total (zip ls hs)
apart [] hs h = tt
apart (l ∷ ls) [] h = tt
apart (l ∷ ls) (y ∷ hs) h = (differs l y ls hs h.0, apart ls hs h.1)

-- ---- their order

-- the row of a series, if it has samples
abbrev kept_row : ℤ → Series → Option BlockRow
kept_row k s = cond (has_samples (row_of k s)) (Some (row_of k s)) None

kept_rows : (k : ℤ) (ss : List Series) → filter has_samples (map (row_of k) ss) ≡ filter_map (kept_row k) ss
kept_rows k [] = refl
kept_rows k (s ∷ ss) = by (has_samples (row_of k s)) (kept_rows k ss) where
  by : (b : Bool) → filter has_samples (map (row_of k) ss) ≡ filter_map (kept_row k) ss
      → cond b (row_of k s ∷ filter has_samples (map (row_of k) ss)) (filter has_samples (map (row_of k) ss)) ≡ cons_option (cond b (Some (row_of k s)) None) (filter_map (kept_row k) ss)
  by true same = ap (λ (rows : List BlockRow). row_of k s ∷ rows) same
  by false same = same

kept_label : (k : ℤ) (s : Series) (row : BlockRow) → kept_row k s ≡ Some row → row.labels ≡ s.0
kept_label k s row e = by (has_samples (row_of k s)) e where
  by : (b : Bool) → cond b (Some (row_of k s)) None ≡ Some row → row.labels ≡ s.0
  by true f = let is : row_of k s ≡ row = cc in ap (λ (q : BlockRow). q.labels) (sym is)
  by false f = absurd cc

chain_of : (rows : List BlockRow) → IsAscending (λ (a b : BlockRow). compare_labels a.labels b.labels) rows → IsChain (λ (a b : BlockRow). compare_labels a.labels b.labels ≡ Less) rows
chain_of [] h = tt
chain_of (a ∷ []) h = tt
chain_of (a ∷ b ∷ more) h = (h.0.0, chain_of (b ∷ more) h.1)

pub rows_ascend : (k : ℤ) (c : Content) → IsChain (λ (a b : BlockRow). compare_labels a.labels b.labels ≡ Less) (rows_of k c)
unfolding rows_of
rows_ascend k c =
    let zs = zip c.table.series c.histories in
    let up = ascending-is series_cmp (by_key_order (λ (s : Series). s.0) compare_labels labels_total) zs in
    let kept = kept_ascends (λ (s : Series). s.0) (λ (row : BlockRow). row.labels) compare_labels labels_total (kept_row k) (kept_label k) (ascending series_cmp zs) up in
    chain_of (rows_of k c) (subst (IsAscending (λ (a b : BlockRow). compare_labels a.labels b.labels)) (sym (kept_rows k (ascending series_cmp zs))) kept)

-- ---- what each of them is

abbrev IsHeld : Series → Type 0
IsHeld s = IsLabelSet s.0 × IsHistory s.1

some_from : (xs : List Sample) → not (length xs == 0) ≡ true → 0 < length xs
some_from [] h = absurd cc
some_from (x ∷ xs) h = omega arith

is_row : (k : ℤ) (s : Series) → IsHeld s → has_samples (row_of k s) ≡ true → IsRowOf k (row_of k s)
is_row k s held some = record {
  labels = held.0;
  some = some_from (samples_in k s.1.samples) some;
  rises = Rises-filter (λ (x : Sample). is_in_hour k x.time) s.1.samples held.1.rises;
  fit = All-filter (λ (x : Sample). is_in_hour k x.time) IsFit s.1.samples held.1.fit;
  within = filter_passes (λ (x : Sample). is_in_hour k x.time) s.1.samples;
  apart = AreApart-runs_in k s.1.hidden held.1.apart;
  hidden_within = IsWithin-runs_in k s.1.hidden;
}

each_row : (k : ℤ) (ss : List Series) → ((s : Series) → Has series_cmp s ss → IsHeld s) → AllByRecursion (IsRowOf k) (filter has_samples (map (row_of k) ss))
each_row k [] h = tt
each_row k (s ∷ ss) h = by (has_samples (row_of k s)) refl (each_row k ss (λ z m. h z (inr m))) where
  by : (b : Bool) → has_samples (row_of k s) ≡ b → AllByRecursion (IsRowOf k) (filter has_samples (map (row_of k) ss))
      → AllByRecursion (IsRowOf k) (cond b (row_of k s ∷ filter has_samples (map (row_of k) ss)) (filter has_samples (map (row_of k) ss)))
  by true e rest = (is_row k s (h s (inl refl)) e, rest)
  by false e rest = rest

of_zip : (ls : List Labels) (hs : List History) → AllByRecursion IsLabelSet ls → AllByRecursion IsHistory hs → (s : Series) → Has series_cmp s (zip ls hs) → IsHeld s
of_zip [] hs p q s m = absurd m
of_zip (l ∷ ls) [] p q s m = absurd m
of_zip (l ∷ ls) (y ∷ hs) p q s (inl e) = subst IsHeld (sym e) (p.0, q.0)
of_zip (l ∷ ls) (y ∷ hs) p q s (inr m) = of_zip ls hs p.1 q.1 s m

range_at : (at n i : ℕ) → i < n → get_or (range_with_len at n) i 0 ≡ at + i
range_at at zero i lt = absurd (omega arith)
range_at at (suc n) zero lt = omega arith
range_at at (suc n) (suc i) lt = range_at (at + 1) n i (omega arith) ∙ omega arith

range_long : (at n : ℕ) → length (range_with_len at n) ≡ n
range_long at zero = refl
range_long at (suc n) = ap suc (range_long (at + 1) n)

histories_held : (c : Content) → length c.histories ≡ length c.table.series → All (λ (slot : ℕ). IsHistory (history_at c slot)) (range_with_len 0 (length c.table.series)) → All IsHistory c.histories
histories_held c each h i d lt =
    let n = length c.table.series in
    let is : get_or (range_with_len 0 n) i 0 ≡ i = range_at 0 n i (omega arith) ∙ omega arith in
    let one : IsHistory (history_at c i) = subst (λ (slot : ℕ). IsHistory (history_at c slot)) is (h i 0 (omega (arith, range_long 0 n))) in
    subst IsHistory (unwrap_or-slice_get c.histories i no_history ∙ get_or_default c.histories i no_history d lt) one

pub rows_are_rows : (k : ℤ) (c : Content) → length c.histories ≡ length c.table.series → All IsLabelSet c.table.series
    → All (λ (slot : ℕ). IsHistory (history_at c slot)) (range_with_len 0 (length c.table.series)) → All (IsRowOf k) (rows_of k c)
unfolding rows_of
rows_are_rows k c each ordered held =
    let zs = zip c.table.series c.histories in
    let all : (s : Series) → Has series_cmp s zs → IsHeld s =
    of_zip c.table.series c.histories (recursion_from_All IsLabelSet c.table.series ordered) (recursion_from_All IsHistory c.histories (histories_held c each held)) in
    All-from_recursion (IsRowOf k) (rows_of k c) (each_row k (ascending series_cmp zs) (λ s m. all s (ascending-of series_cmp s zs m)))
