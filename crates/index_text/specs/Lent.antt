-- The values of borrowed labels.
use Rattle.std.specs.Prelude.{ℕ}
use Rattle.std.specs.Ordering.{nat_cmp, ordering_then}
use Rattle.std.specs.declared.cmp.Ordering.{Ordering}
use Rattle.wal_record.specs.declared.labels.Label.{Label}
use Rattle.wal_record.specs.Labels.{compare_label}
use Rattle.index_text.specs.declared.ordering.LentLabel.{LentLabel}
use Rattle.index_text.specs.declared.ordering.RowLabel.{RowLabel}
use Rattle.index_text.specs.declared.groups.NamePlace.{NamePlace}
use Rattle.index_text.specs.declared.groups.LabelPlace.{LabelPlace}
use Rattle.index_text.specs.Layout.{Text}

-- a borrowed label
abbrev pub label_of : LentLabel → Label
label_of l = record { name = l.name.now; value = l.value.now }

-- a label with the index of its row
abbrev pub row_label_of : RowLabel → Label × ℕ
row_label_of l = (label_of l.label, l.row)

-- the order by label, then by index of the row
abbrev pub compare_row_label : Label × ℕ → Label × ℕ → Ordering
compare_row_label a b = ordering_then (compare_label a.0 b.0) (nat_cmp a.1 b.1)

-- a name with the offset of its label index
abbrev pub name_place_of : NamePlace → Text × ℕ
name_place_of n = (n.name.now, n.place)

-- a label with the offset of its postings
abbrev pub label_place_of : LabelPlace → Label × ℕ
label_place_of l = (label_of l.label, l.place)
