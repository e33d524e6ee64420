use Rattle.std.proofs.Common.{arith, false, []}
use Rattle.xor_chunk.specs.declared.before.Last.TheVariants.{Nothing}
use Rattle.xor_chunk.proofs.Writing.{begun, read_written, written_read}
use Rattle.xor_chunk.proofs.chunk_writer.ChunkWriter.behind.Goals as goal

pub invariant_of-result : goal.invariant_of-result
invariant_of-result c = (written_read [] c.behind.result.bits 0 false Nothing (begun c.behind.result.bits c.behind.ensures.none), omega arith)

pub returns-clause-none : goal.returns-clause-none
returns-clause-none c = read_written [] c.behind.result.bits 0 false Nothing (begun c.behind.result.bits c.behind.ensures.none)
