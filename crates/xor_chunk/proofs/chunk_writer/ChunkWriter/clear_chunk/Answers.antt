use Rattle.std.proofs.Common.{arith, false, []}
use Rattle.xor_chunk.specs.declared.before.Last.TheVariants.{Nothing}
use Rattle.xor_chunk.proofs.Writing.{begun, read_written, written_read}
use Rattle.xor_chunk.proofs.chunk_writer.ChunkWriter.clear_chunk.Goals as goal

pub invariant_of-self : goal.invariant_of-self
invariant_of-self c = (written_read [] c.clear.new.self.bits 0 false Nothing (begun c.clear.new.self.bits c.clear.ensures.none), omega arith)

pub returns-clause-none : goal.returns-clause-none
returns-clause-none c = read_written [] c.clear.new.self.bits 0 false Nothing (begun c.clear.new.self.bits c.clear.ensures.none)
