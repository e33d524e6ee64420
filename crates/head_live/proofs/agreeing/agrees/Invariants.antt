use Rattle.std.proofs.Common.{◌≡◌, All, map, take}
use Rattle.head_live.specs.Agreeing.{IsExpiredIn, IsStaleIn, all_told}
use Rattle.head_live.specs.Placing.{AreInSeries, row_at}
use Rattle.head_live.specs.Told.{accepted_rows}
use Rattle.head_live.proofs.agreeing.agrees.Given as goal

abbrev pub invariant-loop-appender : goal.invariant-loop-appender
invariant-loop-appender g l = record {
  rows : map (row_at l.head.content) l.accepted.items ≡ accepted_rows (all_told (take l.appender-index l.appenders));
  stale : All (IsStaleIn l.head.content) (all_told (take l.appender-index l.appenders));
  expired : All (IsExpiredIn l.head.content) (all_told (take l.appender-index l.appenders));
  slots : AreInSeries l.head.content l.accepted.items;
}
