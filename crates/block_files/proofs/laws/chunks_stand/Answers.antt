use Rattle.block_files.proofs.Placed.{chunks_stand}
use Rattle.block_files.proofs.laws.chunks_stand.Goals as goal

pub returns : goal.returns
returns c = chunks_stand
