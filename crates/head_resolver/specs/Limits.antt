-- The limits of a head.
use Rattle.std.specs.Prelude.{◌≡◌, ◌≤◌, ◌<◌, ◌^◌, ℕ, length}
use Rattle.head_series.specs.Table.{Table}
use Rattle.head_resolver.specs.declared.counts.Counts.{Counts}

-- Each count has 64 bits.
pub record AreCountsWithin (c : Counts) : Type 0 where
  pub series_records : c.series_records < 2 ^ 64
  pub sample_records : c.sample_records < 2 ^ 64
  pub stone_records : c.stone_records < 2 ^ 64
  pub skipped_records : c.skipped_records < 2 ^ 64
  pub series_entries : c.series_entries < 2 ^ 64
  pub accepted : c.accepted < 2 ^ 64
  pub stale : c.stale < 2 ^ 64
  pub unknown : c.unknown < 2 ^ 64
  pub hiding : c.hiding < 2 ^ 64
  pub empty_stones : c.empty_stones < 2 ^ 64
  pub unknown_stones : c.unknown_stones < 2 ^ 64
  pub expired_samples : c.expired_samples < 2 ^ 64
  pub expired_stones : c.expired_stones < 2 ^ 64

-- the limit of series, and of distinct label texts, of a head
abbrev pub series_limit : ℕ
series_limit = 4294967295

-- the greatest count, which has 64 bits
abbrev pub count_limit : ℕ
count_limit = 18446744073709551615

-- the table has the limits of a head and is within them
pub record IsBounded (table : Table) : Type 0 where
  pub limit : table.most ≡ series_limit
  pub few : length table.series ≤ series_limit
  pub few_texts : length table.texts ≤ series_limit
