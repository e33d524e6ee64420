use Rattle.std.proofs.Common.{◌∙◌, ap₂, refl, List, ℕ}
use Rattle.xor_chunk.specs.Private.{rest_of}
use Rattle.xor_chunk.specs.Reading.{first_at}
use Rattle.xor_chunk.proofs.Writing.{body_read}
use Rattle.xor_chunk.proofs.chunk_reader.ChunkReader.new.Goals as goal

pub returns-clause-rest : goal.returns-clause-rest
unfolding rest_of
returns-clause-rest c = refl

pub returns-clause-body : goal.returns-clause-body
unfolding rest_of
returns-clause-body c = λ all few fit count is. ap₂ (λ (n : ℕ) (bs : List ℕ). first_at n bs) count is ∙ body_read all few fit
