-- What a list of bindings says, and the tables of such a list.
use Rattle.std.specs.Prelude.{◌≡◌, ℕ, ◌<◌, ◌==◌, List, Option, None, Some, map, length, nat_lt, slice_get, if◌then◌else◌}
use Rattle.std.specs.List.{flat_map}
use Rattle.std.specs.Option.{option_and_then}
use Rattle.hw_bytes.specs.Lists.{distinct, greatest_by, last_found}
use Rattle.wal_record.specs.Labels.{same_text, same_labels}
use Rattle.head_series.specs.Texts.{texts_of}
use Rattle.head_series.specs.Table.{Labels, Table, slot_at}

-- a reference, and the label set that it is bound to
pub record Binding : Type 0 where
  pub reference : ℕ
  pub labels : Labels

-- the label set that the binding gives the reference
abbrev pub bound_by : ℕ → Binding → Option Labels
bound_by r b = if b.reference == r then Some b.labels else None

-- The owner of a reference after these bindings: the label set of the last one for it, or none.
abbrev pub owner : List Binding → ℕ → Option Labels
owner bs r = last_found (bound_by r) bs

-- The series: the distinct label sets, in the order of first sight. A slot is a place in this list.
abbrev pub series_of : List Binding → List Labels
series_of bs = distinct same_labels (map (λ b. b.labels) bs)

-- the greatest reference that was ever bound
abbrev pub greatest_of : List Binding → Option ℕ
greatest_of bs = greatest_by nat_lt (map (λ b. b.reference) bs)

-- The table is that of the bindings: it has their series; for each reference the slot of its owner; the greatest reference; and each text
-- of the series once.
pub record IsTableOf (bs : List Binding) (t : Table) : Type 0 where
  pub series : t.series ≡ series_of bs
  pub owners : (r : ℕ) → option_and_then (slice_get t.series) (slot_at t r) ≡ owner bs r
  pub within : (r s : ℕ) → slot_at t r ≡ Some s → s < length t.series
  pub greatest : t.greatest ≡ greatest_of bs
  pub texts : t.texts ≡ distinct same_text (flat_map texts_of t.series)
