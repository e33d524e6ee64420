use Rattle.std.proofs.lemmas.Result.{err_from_is_err_and}
use Rattle.index_text.specs.Fields.{times, pair_field}
use Rattle.index_text.proofs.Loops.{goes_on, ends, is_done}
use Rattle.index_text.proofs.lists.pairs.Goals as goal

pub loop-preserved : goal.loop-preserved
loop-preserved c =
    rw c.in_ok-push.ensures.items (goes_on (pair_field c.args.limit) c.loop.items.items c.args.count c.loop.counter c.loop.rest.now c.in_ok-item.item c.in_ok-item.after.now (times (pair_field c.args.limit) c.args.count c.args.bytes.now) c.loop-test.true c.in_ok-item.ensures c.loop.invariant)

pub returns : goal.returns
returns c = is_done (pair_field c.args.limit) c.loop.items.items c.args.count c.loop.counter c.loop.rest.now (times (pair_field c.args.limit) c.args.count c.args.bytes.now) c.loop-test.false c.loop.invariant

pub returns-in_err-item : goal.returns-in_err-item
returns-in_err-item c =
    let p = err_from_is_err_and c.from_residual.result c.from_residual.ensures.1 in
    rw (p.1, p.2) (ends (pair_field c.args.limit) c.in_err-item.field-0.0 c.loop.items.items c.args.count c.loop.counter c.loop.rest.now (times (pair_field c.args.limit) c.args.count c.args.bytes.now) c.loop-test.true c.in_err-item.ensures c.loop.invariant)
