use Rattle.std.proofs.Common.{◌≡◌, ◌++◌}
use Rattle.hw_bytes.specs.Writing.{uvarint}
use Rattle.xor_chunk.specs.Bits.{bits_in}
use Rattle.xor_chunk.proofs.Steps.{ArePut}
use Rattle.xor_chunk.proofs.encoding.put_uvarint.Given as goal

abbrev pub invariant-loop-rest : goal.invariant-loop-rest
invariant-loop-rest l = record {
  put : ArePut l.bits.bits (l.initial.bits.bits ++ bits_in (uvarint l.number)) l.rest l.bits.room l.initial.bits.room;
  front : l.bits.front ≡ l.initial.bits.front;
}

abbrev pub decreases-loop-rest : goal.decreases-loop-rest
decreases-loop-rest l = l.rest
