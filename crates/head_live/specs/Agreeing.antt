-- What it means that rows that were told agree with a head.
use Rattle.std.specs.Prelude.{◌≡◌, ◌<ℤ◌, ℕ, true, List, All, drop, length, map}
use Rattle.std.specs.List.{flat_map, enumerate_from}
use Rattle.std.specs.List.Sorted.{IsPermutation}
use Rattle.wal_record.specs.Labels.{Labels}
use Rattle.head_column.specs.Samples.{Sample}
use Rattle.head_column.specs.Histories.{has_reached}
use Rattle.head_core.specs.Content.{Content}
use Rattle.head_core.specs.Heads.{history_at}
use Rattle.head_live.specs.declared.verdict.Verdict.TheVariants.{Stale, Expired}
use Rattle.head_live.specs.Rows.{Row}
use Rattle.head_live.specs.Verdicts.{samples_in}
use Rattle.head_live.specs.Told.{Answer, AppenderState, accepted_rows}

-- the row of a sample
abbrev pub row_of_sample : Labels → Sample → Row
row_of_sample l s = record { labels = l; time = s.time; value = s.value }

-- the rows of the samples of a slot since the opening
abbrev pub new_rows_at : Content → Content → ℕ × Labels → List Row
new_rows_at opening now slot = map (row_of_sample slot.1) (drop (length (history_at opening slot.0).samples) (history_at now slot.0).samples)

-- the rows of the samples of all series since the opening, by slot
abbrev pub new_rows : Content → Content → List Row
new_rows opening now = flat_map (new_rows_at opening now) (enumerate_from 0 now.table.series)

-- if the row was told to be stale, its series has a sample at or past its time
abbrev pub IsStaleIn : Content → Answer → Type 0
IsStaleIn c a = a.verdict ≡ Stale → has_reached (samples_in c a.row.labels) a.row.time ≡ true

-- if the row was told to be expired, its time is before the least valid time
abbrev pub IsExpiredIn : Content → Answer → Type 0
IsExpiredIn c a = a.verdict ≡ Expired → a.row.time <ℤ c.min_valid

-- What was told agrees with the head: the rows told to be accepted are the samples since the opening, each once; the series of each row
-- told to be stale has a sample at or past its time; and the time of each row told to be expired is before the least valid time.
pub record Agrees (opening now : Content) (told : List Answer) : Type 0 where
  pub once : IsPermutation (accepted_rows told) (new_rows opening now)
  pub stale : All (IsStaleIn now) told
  pub expired : All (IsExpiredIn now) told

-- what all appenders were told, one appender after another
abbrev pub all_told : List AppenderState → List Answer
all_told appenders = flat_map (λ a. a.told) appenders
