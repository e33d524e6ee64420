use Rattle.std.proofs.Common.{arith, rules, ◌<◌, ◌+◌, ◌++◌, ◌∷◌, [], ap, ◌∙◌, sym, subst, List, length}
use Rattle.std.specs.Prelude.{FitsSigned}
use Rattle.std.specs.Int.{w64}
use Rattle.xor_chunk.specs.declared.sample.Sample.{Sample}
use Rattle.xor_chunk.specs.Private.{IsWritten, next_bits, read_of}
use Rattle.xor_chunk.specs.Writing.{WriterValue}
use Rattle.xor_chunk.proofs.Writing.{ending_most, pushed, read_written, written_read}
use Rattle.xor_chunk.proofs.chunk_writer.ChunkWriter.push.Goals as goal
use Rattle.xor_chunk.proofs.chunk_writer.ChunkWriter.push.Goals.{After-put_sample}

written : (c : After-put_sample) → IsWritten (read_of c.self.inside.count c.self.inside.bits.bits ++ c.args.sample ∷ []) c.put_sample.new.bits.bits (c.self.inside.count + 1) c.put_sample.result.1 c.put_sample.result.0
written c =
    let s = c.self.inside in
    let before : List Sample = read_of s.count s.bits.bits in
    let few : length before < 65535 = subst (λ (l : List Sample). length l < 65535) (sym (ap (λ (v : WriterValue). v.samples) c.self.view_is)) c.requires in
    let time : FitsSigned w64 c.args.sample.time = search rules in
    let value : FitsSigned w64 c.args.sample.value = search rules in
    pushed before c.args.sample s.bits.bits c.put_sample.new.bits.bits s.count s.whole c.put_sample.result.1 s.last c.put_sample.result.0 c.self.invariant.0 few (record { time = time; value = value })
    (c.put_sample.ensures.bits ∙ ap (λ bs. bs ++ next_bits s.last c.args.sample) c.in_ok-reserve.ensures.bits) c.put_sample.ensures.last c.put_sample.ensures.whole

pub invariant_of-self-2 : goal.invariant_of-self-2
invariant_of-self-2 c =
    let w = written (goal.at.invariant_of-self-2 c).After-put_sample in
    (written_read _ c.put_sample.new.bits.bits (c.self.inside.count + 1) c.put_sample.result.1 c.put_sample.result.0 w, omega (arith, ending_most (c.self.inside.count + 1), c.in_ok-reserve.ensures.reserved, c.put_sample.ensures.room))

pub returns-clause-pushed : goal.returns-clause-pushed
returns-clause-pushed c =
    let w = written (goal.at.returns-clause-pushed c).After-put_sample in
    read_written _ c.put_sample.new.bits.bits (c.self.inside.count + 1) c.put_sample.result.1 c.put_sample.result.0 w ∙ ap (λ (v : WriterValue). v.samples ++ c.args.sample ∷ []) c.self.view_is
