use Rattle.std.proofs.Common.{◌≡◌, map, take}
use Rattle.index_text.specs.Gives.{nows}
use Rattle.index_text.specs.Reading.{row_of}
use Rattle.index_text.specs.Stored.{stored}
use Rattle.index_text.proofs.rows.rows_of.Given as goal

abbrev pub invariant-loop-one : goal.invariant-loop-one
invariant-loop-one l = l.rows.items ≡ map (row_of (nows l.symbols)) (map stored (take l.one-index l.series))
