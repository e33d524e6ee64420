use Rattle.std.proofs.Common.{◌≡◌, ◌∙◌, ap, length, subst, w64}
use Rattle.std.specs.Prelude.{filter, int_lt, ℤ}
use Rattle.std.proofs.lemmas.Int.{to_z-of_z}
use Rattle.xor_chunk.specs.Private.{read_of}
use Rattle.xor_chunk.specs.Writing.{WriterValue}
use Rattle.xor_chunk.proofs.Writing.{body_of}
use Rattle.xor_chunk.proofs.chunk_writer.ChunkWriter.count_before.Goals as goal

pub returns-clause-count : goal.returns-clause-count
returns-clause-count c =
    let s = c.self.inside in
    subst (λ (t : ℤ). c.count_before.result ≡ length (filter (λ x. int_lt x.time t) (read_of s.count s.bits.bits))) (to_z-of_z w64 c.args.time c.ranges.time) (c.count_before.ensures.count (read_of s.count s.bits.bits) (body_of (read_of s.count s.bits.bits) s.bits.bits s.count s.whole s.last c.self.invariant.0))
    ∙ ap (λ (v : WriterValue). length (filter (λ x. int_lt x.time c.args.time) v.samples)) c.self.view_is
