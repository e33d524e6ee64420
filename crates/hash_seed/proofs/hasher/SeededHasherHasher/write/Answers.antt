use Rattle.std.proofs.Common.{rules}
use Rattle.hash_seed.specs.Hashing.{after_bytes}
use Rattle.hash_seed.proofs.hasher.SeededHasherHasher.write.Goals as goal

pub returns : goal.returns
unfolding after_bytes
returns c = search rules
