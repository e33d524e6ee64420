use Rattle.std.proofs.Common.{rules, append_assoc}
use Rattle.xor_chunk.specs.Chunks.{delta_bytes}
use Rattle.xor_chunk.proofs.encoding.put_second.Goals as goal

pub returns-clause-bits : goal.returns-clause-bits
unfolding delta_bytes
returns-clause-bits c = search (rules, append_assoc)
