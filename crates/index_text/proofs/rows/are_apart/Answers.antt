use Rattle.std.proofs.Common.{arith}
use Rattle.index_text.specs.Tests.{ends_before}
use Rattle.index_text.proofs.Chains.{chain_whole}
use Rattle.index_text.proofs.rows.are_apart.Goals as goal

pub returns : goal.returns
returns c = chain_whole ends_before c.args.chunks.now c.loop-i.i (omega (arith, c.loop-i-test.false)) c.loop-i.invariant.so_far
