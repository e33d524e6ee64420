use Rattle.std.proofs.Common.{arith}
use Rattle.head_postings.proofs.Unions.{step_left, step_right, step_both}
use Rattle.head_postings.proofs.union.united.Goals as goal

pub loop-i-preserved-then-index : goal.loop-i-preserved-then-index
loop-i-preserved-then-index c = (
  omega arith,
  omega arith,
  step_left c.args.first.now c.args.second.now c.loop-i.union.items c.push.new.self.items c.loop-i.i c.loop-i.j c.index-first-i.result c.index-second-j.result
      c.loop-i-test.true c.if-j-second.true c.index-first-i.is c.index-second-j.is c.loop-i.invariant.2 (omega (arith, c.if-index.true, c.index.ensures, c.index-in-loop-i.ensures)) c.in_ok-push.ensures.items,
)

pub loop-i-preserved-then-index-2 : goal.loop-i-preserved-then-index-2
loop-i-preserved-then-index-2 c = (
  omega arith,
  omega arith,
  step_right c.args.first.now c.args.second.now c.loop-i.union.items c.push-then-index-2.new.self.items c.loop-i.i c.loop-i.j c.index-first-i.result c.index-second-j.result
      c.loop-i-test.true c.if-j-second.true c.index-first-i.is c.index-second-j.is c.loop-i.invariant.2 (omega (arith, c.if-index-2.true, c.index-else-index.ensures, c.index-else-index-2.ensures)) c.in_ok-push-2.ensures.items,
)

pub loop-i-preserved : goal.loop-i-preserved
loop-i-preserved c = (
  omega arith,
  omega arith,
  step_both c.args.first.now c.args.second.now c.loop-i.union.items c.push-else-index-2.new.self.items c.loop-i.i c.loop-i.j c.index-first-i.result c.index-second-j.result
      c.loop-i-test.true c.if-j-second.true c.index-first-i.is c.index-second-j.is c.loop-i.invariant.2 (omega (arith, c.if-index.false, c.index.ensures, c.index-in-loop-i.ensures, c.if-index-2.false, c.index-else-index.ensures, c.index-else-index-2.ensures)) c.in_ok-push-3.ensures.items,
)
