use Rattle.std.proofs.Common.{arith, ◌++◌, ap, ◌∙◌, false, []}
use Rattle.xor_chunk.specs.Private.{read_of}
use Rattle.xor_chunk.specs.Writing.{WriterValue, xor_body}
use Rattle.xor_chunk.specs.declared.before.Last.TheVariants.{Nothing}
use Rattle.xor_chunk.proofs.Writing.{begun, ended_is, read_written, written_read}
use Rattle.xor_chunk.proofs.chunk_writer.ChunkWriter.end_chunk.Goals as goal

pub invariant_of-self : goal.invariant_of-self
invariant_of-self c = (written_read [] c.end.new.self.bits 0 false Nothing (begun c.end.new.self.bits c.end.ensures.none), omega arith)

pub returns-clause-front : goal.returns-clause-front
returns-clause-front c =
    let s = c.self.inside in
    ended_is s.bits.front c.end.new.self.front (read_of s.count s.bits.bits) s.bits.bits s.count s.whole s.last c.self.invariant.0 c.end.ensures.small c.end.ensures.ended ∙ ap (λ (v : WriterValue). v.front ++ xor_body v.samples) c.self.view_is

pub returns-clause-none : goal.returns-clause-none
returns-clause-none c = read_written [] c.end.new.self.bits 0 false Nothing (begun c.end.new.self.bits c.end.ensures.none)
