-- The verdicts on rows.
use Rattle.std.specs.Prelude.{ℕ, ℤ, Bool, true, false, List, [], ◌∷◌, ◌++◌, Option, None, Some, filter, int_le, int_lt, map, if◌then◌else◌}
use Rattle.std.specs.List.{list_any}
use Rattle.hw_bytes.specs.Lists.{along}
use Rattle.wal_record.specs.Labels.{Labels, same_labels}
use Rattle.head_column.specs.Samples.{Sample}
use Rattle.head_series.specs.Texts.{place}
use Rattle.head_core.specs.Content.{Content}
use Rattle.head_core.specs.Heads.{history_at}
use Rattle.head_live.specs.declared.verdict.Verdict.{Verdict}
use Rattle.head_live.specs.declared.verdict.Verdict.TheVariants.{Accepted, Stale, Expired}
use Rattle.head_live.specs.Rows.{Row}

-- the samples in a slot, or none without a slot
abbrev pub samples_at : Content → Option ℕ → List Sample
samples_at c None = []
samples_at c (Some slot) = (history_at c slot).samples

-- the samples of a label set in the head
abbrev pub samples_in : Content → Labels → List Sample
samples_in c l = samples_at c (place (same_labels l) c.table.series)

-- the times of a label set before a row: those of its samples in the head, and those of its rows before
abbrev pub times_of : Content → List Row → Labels → List ℤ
times_of c before l = map (λ s. s.time) (samples_in c l) ++ map (λ r. r.time) (filter (λ r. same_labels l r.labels) before)

-- A row is stale if its label set has an equal or later time before it.
abbrev pub is_stale : Content → List Row → Row → Bool
is_stale c before r = list_any (λ t. int_le r.time t) (times_of c before r.labels)

-- The verdict on a row after these rows. A row is expired if its time is before the least valid time. Such a row makes none after it
-- stale: its time is before that of each row that is not expired.
abbrev pub verdict_on : Content → List Row → Row → Verdict
verdict_on c before r = if int_lt r.time c.min_valid then Expired else (if is_stale c before r then Stale else Accepted)

-- whether the verdict is that the row is accepted
abbrev pub is_accepted : Verdict → Bool
is_accepted Accepted = true
is_accepted Stale = false
is_accepted Expired = false

-- the verdict on each row, in order
abbrev pub verdicts : Content → List Row → List Verdict
verdicts c rows = along (λ before r. verdict_on c before r ∷ []) rows

-- the rows that are accepted, in order
abbrev pub accepted : Content → List Row → List Row
accepted c rows = along (λ before r. if is_accepted (verdict_on c before r) then r ∷ [] else []) rows
