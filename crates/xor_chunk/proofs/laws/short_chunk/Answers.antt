use Rattle.xor_chunk.proofs.Short.{short}
use Rattle.xor_chunk.proofs.laws.short_chunk.Goals as goal

pub returns : goal.returns
returns c = short
