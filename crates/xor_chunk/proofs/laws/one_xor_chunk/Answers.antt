use Rattle.xor_chunk.proofs.RoundTrip.{one_list}
use Rattle.xor_chunk.proofs.laws.one_xor_chunk.Goals as goal

pub returns : goal.returns
returns c = one_list
