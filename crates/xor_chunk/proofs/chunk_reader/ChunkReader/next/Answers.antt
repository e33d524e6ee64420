use Rattle.std.proofs.Common.{◌∙◌, ap, sym}
use Rattle.xor_chunk.specs.Reading.{ReaderValue}
use Rattle.xor_chunk.proofs.Readers.{none_left}
use Rattle.xor_chunk.proofs.chunk_reader.ChunkReader.next.Goals as goal

pub returns-then-self-eq0-clause-none : goal.returns-then-self-eq0-clause-none
returns-then-self-eq0-clause-none c =
    let s = c.self.inside in
    sym (ap (λ (v : ReaderValue). v.rest) c.self.view_is) ∙ none_left s.left s.last s.bytes.now s.bits c.if-self-eq0.true
