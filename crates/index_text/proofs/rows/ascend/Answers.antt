use Rattle.std.proofs.Common.{arith}
use Rattle.index_text.specs.Tests.{comes_before}
use Rattle.index_text.proofs.Chains.{chain_whole}
use Rattle.index_text.proofs.rows.ascend.Goals as goal

pub returns : goal.returns
returns c = chain_whole comes_before c.args.rows.now c.loop-i.i (omega (arith, c.loop-i-test.false)) c.loop-i.invariant.so_far
