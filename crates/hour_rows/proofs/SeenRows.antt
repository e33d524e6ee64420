-- The rows of an hour, of which the samples of the hour are kept.
use Rattle.std.proofs.Common.{◌≡◌, Bool, true, false, List, [], ◌∷◌, refl, ap, ◌∙◌, map, arith}
use Rattle.std.specs.Prelude.{ℤ, IsTrue, filter, if◌then◌else◌}
use Rattle.std.specs.List.{zip}
use Rattle.std.proofs.lemmas.Int.{ints}
use Rattle.std.specs.declared.cmp.Ordering.{Ordering}
use Rattle.wal_record.specs.Labels.{Labels, compare_labels}
use Rattle.head_column.specs.declared.items.Run.{Run}
use Rattle.head_column.specs.Samples.{Sample}
use Rattle.head_column.specs.Histories.{History}
use Rattle.head_column.specs.Hours.{hour_start, is_in_hour}
use Rattle.head_column.specs.Kept.{samples_at, seen_at}
use Rattle.head_column.specs.Runs.{spans}
use Rattle.head_core.specs.Content.{Content}
use Rattle.head_core.specs.Kept.{content_at}
use Rattle.index_text.specs.Sets.{ascending}
use Rattle.block_read.specs.Blocks.{hour_last}
use Rattle.block_read.specs.declared.rows.BlockRow.{BlockRow}
use Rattle.hour_rows.specs.Clipping.{runs_in, samples_in}
use Rattle.hour_rows.specs.Rows.{has_samples, row_of, rows_of}
use Rattle.hour_rows.proofs.Orders.{ascending_map}

-- the times between the first and the last of an hour
pub in_bounds : (k t a b : ℤ) → a ≡ hour_start k → b ≡ hour_last k → IsTrue (is_in_hour k t) → IsTrue (spans (record { min_time = a; max_time = b }) t)
in_bounds k t a b first last is = grind (arith, ints)

abbrev by_labels : Labels × History → Labels × History → Ordering
by_labels a b = compare_labels a.0 b.0

module _ (k : ℤ) (times : Run) (covers : (t : ℤ) → IsTrue (is_in_hour k t) → IsTrue (spans times t)) where
  same_samples : (samples : List Sample) → samples_in k (samples_at times samples) ≡ samples_in k samples
  same_samples [] = refl
  same_samples (s ∷ ss) = by (spans times s.time) (is_in_hour k s.time) refl refl (same_samples ss) where
    kept : List Sample
    kept = samples_at times ss

    by : (b d : Bool) → spans times s.time ≡ b → is_in_hour k s.time ≡ d → samples_in k kept ≡ samples_in k ss → samples_in k (if b then s ∷ kept else kept) ≡ (if d then s ∷ samples_in k ss else samples_in k ss)
    by true d e f same = ap (λ (c : Bool). if c then s ∷ samples_in k kept else samples_in k kept) f ∙ ap (λ (xs : List Sample). if d then s ∷ xs else xs) same
    by false true e f same = (let g = covers s.time f in absurd cc)
    by false false e f same = same

  -- a series, of which the samples are kept
  abbrev seen : Labels × History → Labels × History
  seen series = (series.0, seen_at times series.1)

  zip_seen : (series : List Labels) (histories : List History) → zip series (map (seen_at times) histories) ≡ map seen (zip series histories)
  zip_seen [] [] = refl
  zip_seen [] (h ∷ hs) = refl
  zip_seen (l ∷ ls) [] = refl
  zip_seen (l ∷ ls) (h ∷ hs) = ap (λ (ps : List (Labels × History)). seen (l, h) ∷ ps) (zip_seen ls hs)

  row_seen : (series : Labels × History) → row_of k (seen series) ≡ row_of k series
  row_seen series = ap (λ (samples : List Sample). record { labels = series.0; samples = samples; hidden = runs_in k series.1.hidden }) (same_samples series.1.samples)

  rows_seen : (ps : List (Labels × History)) → map (row_of k) (map seen ps) ≡ map (row_of k) ps
  rows_seen [] = refl
  rows_seen (p ∷ ps) = ap (λ (row : BlockRow). row ∷ map (row_of k) (map seen ps)) (row_seen p) ∙ ap (λ (rows : List BlockRow). row_of k p ∷ rows) (rows_seen ps)

  -- the rows by what is kept
  pub same_rows : (c : Content) → rows_of k (content_at times c) ≡ rows_of k c
  unfolding rows_of
  same_rows c =
      ap (λ (ps : List (Labels × History)). filter has_samples (map (row_of k) (ascending by_labels ps))) (zip_seen c.table.series c.histories)
      ∙ ap (λ (ps : List (Labels × History)). filter has_samples (map (row_of k) ps)) (ascending_map seen by_labels (zip c.table.series c.histories))
      ∙ ap (filter has_samples) (rows_seen (ascending by_labels (zip c.table.series c.histories)))
