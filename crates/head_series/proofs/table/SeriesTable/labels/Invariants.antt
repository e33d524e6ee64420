use Rattle.std.proofs.Common.{◌≡◌, take}
use Rattle.head_series.specs.Table.{labels_at}
use Rattle.head_series.proofs.table.SeriesTable.labels.Given as goal

abbrev pub invariant-loop-i : goal.invariant-loop-i
invariant-loop-i l = l.labels ≡ take l.i (labels_at l.self l.slot)
