-- Words of private functions and of proofs: the labels of one row, and their errors.
use Rattle.std.specs.Prelude.{◌≡◌, ℕ, List, Vec, map}
use Rattle.std.specs.Global.{Global}
use Rattle.wal_record.specs.declared.labels.LabelFault.{LabelFault}
use Rattle.wal_record.specs.declared.labels.LabelFault.TheVariants as label
use Rattle.wal_record.specs.Labels.{Labels, label as label_of}
use Rattle.head_live.specs.declared.fault.PrepareFault.{PrepareFault}
use Rattle.head_live.specs.declared.fault.PrepareFault.TheVariants as prepare
use Rattle.head_live.specs.Rows.{IsNoLabelSet}

-- the labels of names and values
abbrev pub labels_of : List (Vec ℕ Global × Vec ℕ Global) → Labels
labels_of pairs = map (λ p. label_of p.0.items p.1.items) pairs

-- the error of building a label set: the labels are none, or out of memory
abbrev pub IsRefusedSet : Labels → LabelFault → Type 0
IsRefusedSet labels label.EmptyName = IsNoLabelSet labels label.EmptyName
IsRefusedSet labels label.NotAscending = IsNoLabelSet labels label.NotAscending
IsRefusedSet labels label.Memory = Unit {0}

-- the error of building the label set of the row with this index
abbrev pub IsRefusedAt : ℕ → Labels → PrepareFault → Type 0
IsRefusedAt place labels (prepare.Labels row fault) = (row ≡ place) × IsNoLabelSet labels fault
IsRefusedAt place labels prepare.Memory = Unit {0}
