use Rattle.std.proofs.Common.{◌≡◌, ◌≤◌, All, Some, length, take, vec_capacity}
use Rattle.std.specs.List.{AllZip}
use Rattle.std.specs.Prelude.{ℕ, slice_get}
use Rattle.head_live.specs.Sets.{IsReady}
use Rattle.head_live.proofs.prepared.fill.Given as goal

abbrev pub invariant-loop-row : goal.invariant-loop-row
invariant-loop-row l = record {
  rows : AllZip (IsReady l.places l.in_use.numbers) (take l.row-index l.rows) l.prepared.items;
  from : All (λ number. (place : ℕ) × (slice_get l.places place ≡ Some number)) l.in_use.numbers;
  many : length l.prepared.items ≡ l.row-index;
  few : length l.in_use.numbers ≤ l.row-index;
  capacity : vec_capacity l.prepared ≡ vec_capacity l.fn.prepared;
  room : l.in_use.room ≡ l.fn.in_use.room;
  places : l.in_use.places ≡ l.fn.in_use.places;
}
