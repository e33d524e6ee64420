use Rattle.std.proofs.Common.{◌+◌, ◌-◌, ◌≡◌, ◌<◌, ◌^◌, ◌++◌}
use Rattle.xor_chunk.specs.Bits.{bits_of, bits_in}
use Rattle.xor_chunk.proofs.reader.BitReader.read_bits.Given as goal

abbrev pub invariant-loop-have : goal.invariant-loop-have
invariant-loop-have l = record {
  few : l.have < 64;
  over : l.have < l.count + 8;
  small : l.held < 2 ^ l.have;
  kept : bits_of l.have l.held ++ bits_in l.bytes ≡ bits_of l.self-inside.count l.self-inside.held ++ bits_in l.self-inside.bytes.now;
}

abbrev pub decreases-loop-have : goal.decreases-loop-have
decreases-loop-have l = l.count - l.have
