use Rattle.std.proofs.Common.{subst}
use Rattle.block_read.specs.Reading.{AreWithin}
use Rattle.block_read.proofs.Described.{each_more}
use Rattle.block_read.proofs.describing.has_rows.Goals as goal

pub loop-runs-preserved : goal.loop-runs-preserved
loop-runs-preserved c = λ hour s e. each_more (AreWithin hour) c.args.hidden.now c.loop-runs.runs-index c.runs-item.result c.loop-runs-test.true c.runs-item.is (c.loop-runs.invariant hour s e) (subst (AreWithin hour) c.as_slice-in-loop-runs.ensures (c.has_runs.ensures.sound hour s e c.if-not-has_runs.false))
