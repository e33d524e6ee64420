-- The entries of rows; and words of private functions and of proofs: the state while rows are judged.
use Rattle.std.specs.Prelude.{◌≡◌, ◌≤ℤ◌, ℕ, ℤ, ◌+◌, ◌≤◌, ◌<◌, ◌^◌, Bool, ◌||◌, List, [], ◌∷◌, All, Option, None, Some, false, int_le, int_lt, length, map, nat_lt, slice_index_or, if◌then◌else◌}
use Rattle.std.specs.List.{list_any}
use Rattle.std.specs.Option.{option_map, option_and_then}
use Rattle.hw_bytes.specs.Lists.{or_else}
use Rattle.wal_record.specs.declared.record.SeriesEntry.{SeriesEntry}
use Rattle.wal_record.specs.declared.record.SampleEntry.{SampleEntry}
use Rattle.wal_record.specs.Labels.{Labels, same_labels}
use Rattle.head_column.specs.Times.{greatest, reaches}
use Rattle.head_series.specs.Texts.{place}
use Rattle.head_series.specs.Table.{IsLeast}
use Rattle.head_core.specs.Content.{Content}
use Rattle.head_live.specs.declared.judging.Standing.{Standing}
use Rattle.head_live.specs.declared.verdict.Verdict.{Verdict}
use Rattle.head_live.specs.declared.verdict.Verdict.TheVariants.{Accepted, Stale, Expired}
use Rattle.head_live.specs.Rows.{Row}
use Rattle.head_live.specs.Verdicts.{accepted, times_of, verdicts}
use Rattle.head_live.specs.Batch.{AreReferences, first_reference, is_missing, new_sets, owner_in, sample_of, series_from}

-- the entries that an append of the rows logs
pub record IsBatch (c : Content) (rows : List Row) (series : List SeriesEntry) (samples : List SampleEntry) : Type 0 where
  pub known : Labels → Option ℕ
  pub references : AreReferences c known (map (λ r. r.labels) (accepted c rows))
  pub enough : first_reference c + length (new_sets known (accepted c rows)) ≤ 2 ^ 64
  pub series_are : series ≡ series_from (first_reference c) (new_sets known (accepted c rows))
  pub samples_are : samples ≡ map (sample_of known (first_reference c) (new_sets known (accepted c rows))) (accepted c rows)

-- ---- the change by one row

-- the reference, if it has 64 bits
abbrev pub small : ℕ → Option ℕ
small n = if nat_lt n (2 ^ 64) then Some n else None

-- the reference after this one
abbrev pub one_past : Option ℕ → Option ℕ
one_past None = None
one_past (Some n) = small (n + 1)

-- the next reference after an accepted row of a label set with this reference, or with none
abbrev pub left_by : Option ℕ → Option ℕ → Option ℕ
left_by None next = one_past next
left_by (Some r) next = next

-- the new series by an accepted row of a label set with this reference, or with none
abbrev pub entry_by : Option ℕ → Option ℕ → Labels → List SeriesEntry
entry_by None None l = []
entry_by None (Some n) l = record { reference = n; labels = l } ∷ []
entry_by (Some r) next l = []

-- the sample of an accepted row with this reference
abbrev pub sample_by : Option ℕ → ℤ → ℤ → List SampleEntry
sample_by None t v = []
sample_by (Some r) t v = record { reference = r; time = t; value = v } ∷ []

-- whether a row of a label set with this state is expired or stale, where m is the least valid time
abbrev pub is_refused : ℤ → Standing → ℤ → Bool
is_refused m s t = int_lt t m || reaches s.last t

-- the state of a label set after a row of it
abbrev pub standing_after : ℤ → Standing → Option ℕ → ℤ → Standing
standing_after m s next t = if is_refused m s t then s else record { reference = or_else s.reference next; last = Some t }

-- the next reference after a row
abbrev pub next_after : ℤ → Standing → Option ℕ → ℤ → Option ℕ
next_after m s next t = if is_refused m s t then next else left_by s.reference next

-- the new series by a row
abbrev pub entry_after : ℤ → Standing → Option ℕ → Labels → ℤ → List SeriesEntry
entry_after m s next l t = if is_refused m s t then [] else entry_by s.reference next l

-- the sample by a row
abbrev pub sample_after : ℤ → Standing → Option ℕ → ℤ → ℤ → List SampleEntry
sample_after m s next t v = if is_refused m s t then [] else sample_by (or_else s.reference next) t v

-- the verdict on a row
abbrev pub verdict_after : ℤ → Standing → ℤ → Verdict
verdict_after m s t = if int_lt t m then Expired else (if reaches s.last t then Stale else Accepted)

-- ---- the states of label sets

-- the state of a label set that the head has not seen
abbrev pub no_standing : Standing
no_standing = record { reference = None; last = None }

-- the state of the label set with this index
abbrev pub standing_at : List Standing → ℕ → Standing
standing_at ss i = slice_index_or ss i no_standing

-- the state of a label set before the first row
pub record IsStart (c : Content) (l : Labels) (s : Standing) : Type 0 where
  pub reference : IsLeast (λ r. owner_in c r ≡ Some l) s.reference
  pub last : s.last ≡ greatest (times_of c [] l)

-- the states of label sets before the first row
pub record AreStarts (c : Content) (sets : List Labels) (ss : List Standing) : Type 0 where
  pub many : length ss ≡ length sets
  pub each : (i : ℕ) → i < length sets → IsStart c (slice_index_or sets i []) (standing_at ss i)

-- the reference of a label set by these states
abbrev pub known_in : List Labels → List Standing → Labels → Option ℕ
known_in sets ss l = option_and_then (λ i. (standing_at ss i).reference) (place (same_labels l) sets)

-- the reference of a label set after some accepted rows: its reference in the head, or else the one that it got as a new label set
abbrev pub given : (Labels → Option ℕ) → ℕ → List Labels → Labels → Option ℕ
given known first new l = or_else (known l) (option_map (λ n. first + n) (place (same_labels l) new))

-- The state while rows are judged, after the rows `before`, of which `taken` are accepted.
pub record Judges (c : Content) (sets : List Labels) (known : Labels → Option ℕ) (before taken : List Row) (ss : List Standing) (next : Option ℕ)
    (said : List Verdict) (series : List SeriesEntry) (samples : List SampleEntry) : Type 0 where
  pub taken_are : taken ≡ accepted c before
  pub many : length ss ≡ length sets
  pub verdicts_are : said ≡ verdicts c before
  pub series_are : series ≡ series_from (first_reference c) (new_sets known taken)
  pub samples_are : samples ≡ map (sample_of known (first_reference c) (new_sets known taken)) taken
  pub next_is : next ≡ small (first_reference c + length (new_sets known taken))
  pub enough : first_reference c + length (new_sets known taken) ≤ 2 ^ 64
  pub named : All (λ r. is_missing (given known (first_reference c) (new_sets known taken) r.labels) ≡ false) taken
  pub references : (l : Labels) (i : ℕ) → place (same_labels l) sets ≡ Some i → (standing_at ss i).reference ≡ given known (first_reference c) (new_sets known taken) l
  pub lasts : (l : Labels) (i : ℕ) → place (same_labels l) sets ≡ Some i → (t : ℤ) → c.min_valid ≤ℤ t → reaches (standing_at ss i).last t ≡ list_any (int_le t) (times_of c before l)
