use Rattle.std.proofs.Common.{◌≡◌, ◌+◌, ◌++◌, take}
use Rattle.std.specs.Prelude.{vec_len}
use Rattle.std.specs.Vec.{vec_capacity}
use Rattle.xor_chunk.proofs.writer.copy_staged.Given as goal

abbrev pub invariant-loop-byte : goal.invariant-loop-byte
invariant-loop-byte l = record {
  items : l.bytes.items ≡ l.initial.bytes.items ++ take l.byte-index l.byte-items;
  len : vec_len l.bytes ≡ vec_len l.initial.bytes + l.byte-index;
  capacity : vec_capacity l.bytes ≡ vec_capacity l.initial.bytes;
}
