use Rattle.std.proofs.Common.{◌≡◌, ◌++◌, map, take}
use Rattle.wal_record.specs.declared.labels.Label.{Label}
use Rattle.index_text.specs.Lent.{row_label_of}
use Rattle.index_text.proofs.gathering.push_row_labels.Given as goal

abbrev pub invariant-loop-i : goal.invariant-loop-i
invariant-loop-i l = map row_label_of l.labels.items ≡ map row_label_of l.fn.labels.items ++ map (λ (x : Label). (x, l.place)) (take l.i l.row.labels)
