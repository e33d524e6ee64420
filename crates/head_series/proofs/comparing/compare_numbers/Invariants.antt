use Rattle.std.proofs.Common.{◌≡◌, ◌≤◌, drop, length}
use Rattle.wal_record.specs.Labels.{compare_labels}
use Rattle.head_series.specs.Rows.{labels_in}
use Rattle.head_series.proofs.comparing.compare_numbers.Given as goal

abbrev pub invariant-loop-i : goal.invariant-loop-i
invariant-loop-i l =
    (l.i ≤ length l.second) × (compare_labels (labels_in l.texts.texts (drop l.i l.first)) (labels_in l.texts.texts (drop l.i l.second)) ≡ compare_labels (labels_in l.texts.texts l.first) (labels_in l.texts.texts l.second))
