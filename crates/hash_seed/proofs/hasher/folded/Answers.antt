use Rattle.std.proofs.Common.{rules}
use Rattle.hash_seed.specs.Hashing.{folded}
use Rattle.hash_seed.proofs.hasher.folded.Goals as goal

pub returns : goal.returns
unfolding folded
returns c = search rules
