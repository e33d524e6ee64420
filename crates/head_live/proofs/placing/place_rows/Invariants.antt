use Rattle.std.proofs.Common.{◌≡◌, ◌++◌, All, map, take}
use Rattle.head_live.specs.Agreeing.{IsExpiredIn, IsStaleIn}
use Rattle.head_live.specs.Placing.{AreInSeries, row_at}
use Rattle.head_live.specs.Told.{accepted_rows, answer_of}
use Rattle.head_live.proofs.placing.place_rows.Given as goal

abbrev pub invariant-loop-row : goal.invariant-loop-row
invariant-loop-row l = record {
  rows : map (row_at l.head.content) l.accepted.items ≡ map (row_at l.head.content) l.initial.accepted.items ++ accepted_rows (map answer_of (take l.row-index l.told));
  stale : All (IsStaleIn l.head.content) (map answer_of (take l.row-index l.told));
  expired : All (IsExpiredIn l.head.content) (map answer_of (take l.row-index l.told));
  slots : AreInSeries l.head.content l.initial.accepted.items → AreInSeries l.head.content l.accepted.items;
}
