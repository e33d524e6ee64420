-- The least valid time m, in milliseconds: what it leaves of the content of a head.
use Rattle.std.specs.Prelude.{◌≡◌, ℤ, ◌≤ℤ◌, map}
use Rattle.wal_record.specs.Entries.{Entry, series, sample, stone}
use Rattle.wal_record.specs.Validity.{raised}
use Rattle.head_column.specs.Validity.{history_from, latest_from}
use Rattle.head_resolver.specs.declared.counts.Counts.{Counts}
use Rattle.head_core.specs.Content.{Content}

-- The content without the samples and the hidden times before m, which is then in force. The series, their references and postings, and
-- the counts are unchanged.
abbrev pub content_from : ℤ → Content → Content
content_from m c = record c { histories = map (history_from m) c.histories; max_time = latest_from m c.max_time; min_valid = m }

-- the entry is not expired
abbrev pub IsValidEntry : ℤ → Entry → Type 0
IsValidEntry m (series e) = Unit {0}
IsValidEntry m (sample s) = m ≤ℤ s.time
IsValidEntry m (stone d) = m ≤ℤ d.max_time

-- what m leaves of an entry that is not expired
abbrev pub entry_from : ℤ → Entry → Entry
entry_from m (series e) = series e
entry_from m (sample s) = sample s
entry_from m (stone d) = stone (raised m d)

-- the seven counts of entries are the same
pub record HaveFates (c d : Counts) : Type 0 where
  pub series_entries : c.series_entries ≡ d.series_entries
  pub accepted : c.accepted ≡ d.accepted
  pub stale : c.stale ≡ d.stale
  pub unknown : c.unknown ≡ d.unknown
  pub hiding : c.hiding ≡ d.hiding
  pub empty_stones : c.empty_stones ≡ d.empty_stones
  pub unknown_stones : c.unknown_stones ≡ d.unknown_stones
