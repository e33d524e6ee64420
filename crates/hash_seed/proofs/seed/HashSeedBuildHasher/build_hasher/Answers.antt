use Rattle.std.proofs.Common.{rules}
use Rattle.hash_seed.specs.Hashing.{hasher_of}
use Rattle.hash_seed.proofs.seed.HashSeedBuildHasher.build_hasher.Goals as goal

pub returns : goal.returns
unfolding hasher_of
returns c = search rules
