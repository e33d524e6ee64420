use Rattle.std.proofs.Common.{◌≡◌, ◌++◌, ◌∷◌, []}
use Rattle.std.proofs.lemmas.Result.{err_from_is_err_and}
use Rattle.std.proofs.lemmas.List.{map_push}
use Rattle.index_text.specs.Gives.{nows}
use Rattle.index_text.specs.Fields.{times, text_field}
use Rattle.index_text.proofs.Loops.{goes_on, ends, is_done}
use Rattle.index_text.proofs.lists.texts.Goals as goal

pub loop-preserved : goal.loop-preserved
loop-preserved c =
    let n = c.in_ok-item.item in
    let e : nows c.push.new.self.items ≡ nows c.loop.items.items ++ n.now ∷ [] = rw c.in_ok-push.ensures.items (map_push _ c.loop.items.items n) in
    rw e (goes_on text_field (nows c.loop.items.items) c.args.count c.loop.counter c.loop.rest.now n.now c.in_ok-item.after.now (times text_field c.args.count c.args.bytes.now) c.loop-test.true c.in_ok-item.ensures c.loop.invariant)

pub returns : goal.returns
returns c = is_done text_field (nows c.loop.items.items) c.args.count c.loop.counter c.loop.rest.now (times text_field c.args.count c.args.bytes.now) c.loop-test.false c.loop.invariant

pub returns-in_err-item : goal.returns-in_err-item
returns-in_err-item c =
    let p = err_from_is_err_and c.from_residual.result c.from_residual.ensures.1 in
    rw (p.1, p.2) (ends text_field c.in_err-item.field-0.0 (nows c.loop.items.items) c.args.count c.loop.counter c.loop.rest.now (times text_field c.args.count c.args.bytes.now) c.loop-test.true c.in_err-item.ensures c.loop.invariant)
