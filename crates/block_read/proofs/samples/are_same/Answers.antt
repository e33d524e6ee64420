use Rattle.std.proofs.Common.{arith, []}
use Rattle.block_read.proofs.Lists.{same_lists}
use Rattle.block_read.proofs.samples.are_same.Goals as goal

pub returns-clause-sound : goal.returns-clause-sound
returns-clause-sound c = λ yes. same_lists [] c.args.files.now c.args.others.now (omega (arith, c.if-files-others.false)) (λ k lt. c.loop-i.invariant k (omega (arith, lt, c.loop-i-test.false)))
