use Rattle.std.proofs.Common.{◌≡◌, ◌≤◌, take}
use Rattle.head_live.specs.Told.{accepted_count}
use Rattle.head_live.proofs.telling.count_accepted.Given as goal

abbrev pub invariant-loop-place : goal.invariant-loop-place
invariant-loop-place l = record {
  count : l.count ≡ accepted_count (take l.place l.said);
  few : l.count ≤ l.place;
}
