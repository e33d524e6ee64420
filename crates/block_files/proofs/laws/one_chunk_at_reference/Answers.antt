use Rattle.block_files.proofs.Elements.{one_stands}
use Rattle.block_files.proofs.laws.one_chunk_at_reference.Goals as goal

pub returns : goal.returns
returns c = one_stands
