use Rattle.std.proofs.Common.{◌≡◌}
use Rattle.hash_seed.specs.Hashing.{after_blocks}
use Rattle.hash_seed.proofs.hasher.after_many.Given as goal

abbrev pub invariant-loop-block : goal.invariant-loop-block
invariant-loop-block l = l.state ≡ after_blocks l.factor l.bytes l.fn.state l.block
