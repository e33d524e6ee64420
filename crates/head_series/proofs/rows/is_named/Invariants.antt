use Rattle.std.proofs.Common.{◌≡◌, take}
use Rattle.head_series.specs.Rows.{labels_in}
use Rattle.head_series.proofs.rows.is_named.Given as goal

abbrev pub invariant-loop-i : goal.invariant-loop-i
invariant-loop-i l = take l.i l.labels ≡ labels_in l.texts.texts (take l.i l.numbers)
