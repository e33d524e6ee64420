use Rattle.std.proofs.Common.{◌≡◌, map, take}
use Rattle.index_text.specs.Index.{labels_from}
use Rattle.index_text.specs.Lent.{row_label_of}
use Rattle.index_text.proofs.gathering.row_labels.Given as goal

abbrev pub invariant-loop-place : goal.invariant-loop-place
invariant-loop-place l = map row_label_of l.labels.items ≡ labels_from 0 (take l.place l.rows)
