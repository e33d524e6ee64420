-- The rows of an hour.
use Rattle.std.specs.Prelude.{ℤ, Bool, not, List, map, filter, length, ◌==◌}
use Rattle.std.specs.List.{zip}
use Rattle.wal_record.specs.Labels.{Labels, compare_labels}
use Rattle.head_column.specs.Histories.{History}
use Rattle.index_text.specs.Sets.{ascending}
use Rattle.head_core.specs.Content.{Content}
use Rattle.block_read.specs.declared.rows.BlockRow.{BlockRow}
use Rattle.hour_rows.specs.Clipping.{samples_in, runs_in}

-- the row of a series; it can have no samples
abbrev pub row_of : ℤ → Labels × History → BlockRow
row_of k series = record { labels = series.0; samples = samples_in k series.1.samples; hidden = runs_in k series.1.hidden }

-- whether the row has samples
abbrev pub has_samples : BlockRow → Bool
has_samples row = not (length row.samples == 0)

-- The rows of an hour, in the order of label sets: for each series with an accepted sample in the hour its labels, its samples in the hour,
-- and its hidden runs clipped to the hour.
unfoldable pub rows_of : ℤ → Content → List BlockRow
rows_of k c = filter has_samples (map (row_of k) (ascending (λ (a b : Labels × History). compare_labels a.0 b.0) (zip c.table.series c.histories)))
