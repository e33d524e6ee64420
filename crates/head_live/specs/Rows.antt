-- Rows for a live head, and the errors of their labels.
use Rattle.std.specs.Prelude.{◌≡◌, ℕ, ◌<◌, ◌≤◌, ℤ, List, [], ◌∷◌, ◌++◌, All, Some, length, map, slice_get, take, unwrap_or}
use Rattle.wal_record.specs.declared.labels.Label.{Label}
use Rattle.wal_record.specs.declared.labels.LabelFault.{LabelFault}
use Rattle.wal_record.specs.declared.labels.LabelFault.TheVariants as label
use Rattle.wal_record.specs.Labels.{Labels, label as label_of, IsLabelSet, IsNext}
use Rattle.head_live.specs.declared.rows.RawRow.{RawRow}
use Rattle.head_live.specs.declared.rows.AgainRow.{AgainRow}
use Rattle.head_live.specs.declared.fault.PrepareFault.{PrepareFault}
use Rattle.head_live.specs.declared.fault.PrepareFault.TheVariants as prepare

-- A row: the labels of its series, a time in milliseconds and a value.
pub record Row : Type 0 where
  pub labels : Labels
  pub time : ℤ
  pub value : ℤ

-- the row of an unchecked one
abbrev pub row_of : RawRow → Row
row_of raw = record { labels = map (λ p. label_of p.0.items p.1.items) raw.pairs.items; time = raw.time; value = raw.value }

-- the fault of a label that follows these
abbrev pub IsFaultBehind : List Label → Label → LabelFault → Type 0
IsFaultBehind before l label.EmptyName = length l.name ≡ 0
IsFaultBehind before l label.NotAscending = (0 < length l.name) × (IsNext before l.name → ⊥)
IsFaultBehind before l label.Memory = ⊥

-- The labels are no label set, and this is the fault of the first label that cannot follow those before it.
pub record IsNoLabelSet (labels : List Label) (fault : LabelFault) : Type 0 where
  pub front : List Label
  pub next : Label
  pub rest : List Label
  pub whole : labels ≡ front ++ next ∷ rest
  pub ordered : IsLabelSet front
  pub bad : IsFaultBehind front next fault

-- The row with this index is the first whose labels are no label set, and this is their fault.
pub record IsFirstBad (rows : List Row) (place : ℕ) (fault : LabelFault) : Type 0 where
  pub row : Row
  pub here : slice_get rows place ≡ Some row
  pub before : All (λ r. IsLabelSet r.labels) (take place rows)
  pub bad : IsNoLabelSet row.labels fault

-- the error of preparing rows
abbrev pub IsRefusal : List Row → PrepareFault → Type 0
IsRefusal rows (prepare.Labels row fault) = IsFirstBad rows row fault
IsRefusal rows prepare.Memory = Unit {0}

-- What is prepared: the label set of each row that was checked, and the rows that are ready to be appended.
pub record ReadyRows : Type 0 where
  pub sets : List Labels
  pub rows : List Row

-- a checked row with another time and value
abbrev pub row_again : List Labels → AgainRow → Row
row_again sets r = record { labels = unwrap_or (slice_get sets r.place) []; time = r.time; value = r.value }

-- The row with this index is the first that has no place among so many checked rows.
pub record IsFirstPast (count : ℕ) (rows : List AgainRow) (index : ℕ) : Type 0 where
  pub row : AgainRow
  pub here : slice_get rows index ≡ Some row
  pub before : All (λ r. r.place < count) (take index rows)
  pub past : count ≤ row.place
