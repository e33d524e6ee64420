use Rattle.std.proofs.Common.{Err, ap, ◌∙◌}
use Rattle.std.proofs.lemmas.Result.{err_from_is_err_and}
use Rattle.head_live.proofs.PrepareLemmas.{label_refused}
use Rattle.head_live.proofs.prepared.label_set.Goals as goal

pub returns-in_err-push-clause-refused : goal.returns-in_err-push-clause-refused
returns-in_err-push-clause-refused c =
    let p = err_from_is_err_and c.from_residual-in_err-push.result c.from_residual-in_err-push.ensures.1 in
    let pairs = c.args.pairs.now in
    let refused = label_refused pairs c.loop-name.name-index c.loop-name-item.result c.deref.result.now c.loop-name.labels c.in_err-push.field-0.0 c.loop-name-test.true c.loop-name-item.is c.deref.ensures.value c.loop-name.invariant.labels c.loop-name.invariant.ordered
    (λ e. c.push.ensures.empty.0 (c.in_err-push.was ∙ ap (λ f. Err f) e)) (λ e. c.push.ensures.order.0 (c.in_err-push.was ∙ ap (λ f. Err f) e)) in
    rw (p.1, p.2) refused
