use Rattle.std.proofs.Common.{◌∙◌, arith}
use Rattle.head_postings.specs.Postings.{label, slots_of}
use Rattle.head_postings.proofs.GivenLemmas.{given_next, given_all, named-set}
use Rattle.head_postings.proofs.names.Names.add.Goals as goal

pub returns-in-Err-clause-err : goal.returns-in-Err-clause-err
returns-in-Err-clause-err c n v =
    c.pop_each.ensures c.args.slot n v (slots_of c.args.self.now.slots n v) (c.in-Err.ensures.err n v ∙ c.loop-i.invariant n v)

pub loop-i-preserved : goal.loop-i-preserved
loop-i-preserved c n v =
    given_next c.args.slot c.args.labels.now c.loop-i.i (label c.pair.result.0.now c.pair.result.1.now) n v (slots_of c.args.self.now.slots n v) (slots_of c.loop-i.self.slots n v) (slots_of c.push.new.self.slots n v)
    c.pair.ensures (c.loop-i.invariant n v) (c.in-Ok.ensures.ok n v)

pub returns-clause-ok : goal.returns-clause-ok
returns-clause-ok c n v =
    given_all c.args.slot c.args.labels.now c.loop-i.i n v (slots_of c.args.self.now.slots n v) (slots_of c.loop-i.self.slots n v)
    c.len-i-end.ensures.ordered (omega (arith, c.loop-i-test.false, c.len-i-end.ensures.count)) (c.loop-i.invariant n v)

pub returns-in-Err-clause-named : goal.returns-in-Err-clause-named
returns-in-Err-clause-named c v = named-set c.args.labels.now v c.len-i-end.ensures.ordered

pub returns-clause-named : goal.returns-clause-named
returns-clause-named c v = named-set c.args.labels.now v c.len-i-end.ensures.ordered
