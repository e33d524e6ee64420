use Rattle.std.proofs.Common.{◌++◌, ap, ◌∙◌, Result, Ok, Err}
use Rattle.std.specs.Prelude.{OnOk}
use Rattle.xor_chunk.specs.Private.{read_of}
use Rattle.xor_chunk.specs.Writing.{WriterValue, xor_body}
use Rattle.xor_chunk.proofs.Writing.{ended_is}
use Rattle.xor_chunk.proofs.chunk_writer.ChunkWriter.copy_chunk.Goals as goal

on_ok : {A E P Q R : Type 0} (r : Result A E) → (P → Q → R) → OnOk r P → OnOk r Q → OnOk r R
on_ok (Err e) f p q = p
on_ok (Ok a) f p q = f p q

pub returns : goal.returns
returns c =
    let s = c.self.inside in
    on_ok c.copy_ended.result
    (λ small ended. ended_is c.args.bytes.now.items c.copy_ended.new.bytes.items (read_of s.count s.bits.bits) s.bits.bits s.count s.whole s.last c.self.invariant.0 small ended ∙ ap (λ (v : WriterValue). c.args.bytes.now.items ++ xor_body v.samples) c.self.view_is)
    c.copy_ended.ensures.small c.copy_ended.ensures.ended
