-- Placed samples as rows, and what a head can hold of what was told.
use Rattle.std.specs.Prelude.{◌≡◌, ◌<◌, List, [], None, ℕ, All, length, map, slice_get, unwrap_or}
use Rattle.wal_record.specs.Labels.{Labels, same_labels}
use Rattle.head_series.specs.Texts.{place}
use Rattle.head_core.specs.Content.{Content}
use Rattle.head_live.specs.declared.placed.PlacedSample.{PlacedSample}
use Rattle.head_live.specs.declared.verdict.Verdict.TheVariants.{Accepted}
use Rattle.head_live.specs.Agreeing.{IsExpiredIn, IsStaleIn}
use Rattle.head_live.specs.Rows.{Row}
use Rattle.head_live.specs.Told.{Answer}

-- the labels of the series in a slot
abbrev pub labels_at : Content → ℕ → Labels
labels_at c slot = unwrap_or (slice_get c.table.series slot) []

-- the row of a placed sample
abbrev pub row_at : Content → PlacedSample → Row
row_at c s = record { labels = labels_at c s.slot; time = s.time; value = s.value }

-- the slots of the samples are those of series
abbrev pub AreInSeries : Content → List PlacedSample → Type 0
AreInSeries c samples = All (λ s. s.slot < length c.table.series) samples

-- how many samples each series has
abbrev pub sample_counts : Content → List ℕ
sample_counts c = map (λ h. length h.samples) c.histories

-- The head can hold a row with this verdict: if it was told to be accepted, its labels have a series; if it was told to be stale, its
-- series has a sample at or past its time; and if it was told to be expired, its time is before the least valid time.
pub record IsPossible (c : Content) (a : Answer) : Type 0 where
  pub series : a.verdict ≡ Accepted → place (same_labels a.row.labels) c.table.series ≡ None → ⊥
  pub stale : IsStaleIn c a
  pub expired : IsExpiredIn c a
