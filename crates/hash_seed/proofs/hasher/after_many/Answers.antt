use Rattle.std.proofs.Common.{arith, rules, refl, suc, ◌≡◌, ◌+◌}
use Rattle.hash_seed.specs.Hashing.{after_blocks}
use Rattle.hash_seed.proofs.hasher.after_many.Goals as goal

pub loop-block-init : goal.loop-block-init
unfolding after_blocks
loop-block-init c = refl

pub loop-block-preserved : goal.loop-block-preserved
unfolding after_blocks
loop-block-preserved c =
    let next : c.loop-block.block + 1 ≡ suc c.loop-block.block = omega arith in
    rw (next, c.mixed-state.ensures, c.loop-block.invariant)

pub returns : goal.returns
returns c = search rules
