use Rattle.std.proofs.Common.{◌≡◌, ◌≤◌, ◌-◌, length, take, true}
use Rattle.std.specs.Prelude.{All, int_lt}
use Rattle.head_column.specs.Stored.{text_len}
use Rattle.head_column.proofs.sealed.chunks_before.Given as goal

abbrev pub invariant-loop-count : goal.invariant-loop-count
invariant-loop-count l = record {
  within : l.count ≤ length l.sealed;
  len : l.len ≡ text_len (take l.count l.sealed);
  over : All (λ c. int_lt c.max_time l.time ≡ true) (take l.count l.sealed);
}

abbrev pub decreases-loop-count : goal.decreases-loop-count
decreases-loop-count l = length l.sealed - l.count
