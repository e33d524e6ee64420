use Rattle.std.proofs.Common.{◌+◌, ◌-◌, ◌*◌, ◌≡◌, ◌≤◌}
use Rattle.std.specs.Prelude.{vec_len}
use Rattle.std.specs.Vec.{vec_capacity}
use Rattle.xor_chunk.proofs.Bits.{ArePut}
use Rattle.xor_chunk.proofs.writer.put_last.Given as goal

abbrev pub invariant-loop-left : goal.invariant-loop-left
invariant-loop-left l = record {
  put : ArePut l.initial.bytes.items l.bytes.items l.count l.left l.held;
  within : l.left ≤ l.count;
  len : 8 * vec_len l.bytes + l.left ≡ 8 * vec_len l.initial.bytes + l.count;
  capacity : vec_capacity l.bytes ≡ vec_capacity l.initial.bytes;
}

abbrev pub decreases-loop-left : goal.decreases-loop-left
decreases-loop-left l = l.left + 1 - 8
