use Rattle.std.proofs.Common.{◌≡◌, ◌+◌, ◌≤◌, ◌++◌, length, map, vec_capacity, vec_len}
use Rattle.std.specs.Iterator.Adapters.{zip_first, zip_second}
use Rattle.std.specs.Slice.Iter.{iter_rest}
use Rattle.std.specs.Vec.Iter.{into_iter_items}
use Rattle.head_live.specs.Told.{answer_of, answers, row_told}
use Rattle.head_live.proofs.telling.tell.Given as goal

abbrev pub invariant-loop-row : goal.invariant-loop-row
invariant-loop-row l = record {
  told : map answer_of l.told.items ++ answers (map row_told (into_iter_items (zip_first l.row-iterator))) (iter_rest (zip_second l.row-iterator)) ≡ map answer_of l.initial.told.items ++ answers (map row_told l.fn.waiting.items) l.said;
  each : length (iter_rest (zip_second l.row-iterator)) ≡ length (into_iter_items (zip_first l.row-iterator));
  room : vec_len l.told + length (into_iter_items (zip_first l.row-iterator)) ≤ vec_capacity l.told;
}
