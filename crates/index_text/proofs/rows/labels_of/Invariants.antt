use Rattle.std.proofs.Common.{◌≡◌, take}
use Rattle.index_text.specs.Gives.{nows}
use Rattle.index_text.specs.Reading.{labels_at}
use Rattle.index_text.proofs.rows.labels_of.Given as goal

abbrev pub invariant-loop-i : goal.invariant-loop-i
invariant-loop-i l = l.labels ≡ labels_at (nows l.symbols) (take l.i l.references)
