use Rattle.std.proofs.Common.{◌<◌, All, take}
use Rattle.head_live.proofs.prepared.check_places.Given as goal

abbrev pub invariant-loop-row : goal.invariant-loop-row
invariant-loop-row l = All (λ r. r.place < l.count) (take l.row l.rows)
