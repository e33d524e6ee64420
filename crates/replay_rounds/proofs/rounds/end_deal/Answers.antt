use Rattle.std.proofs.Common.{◌≡◌, ◌∙◌, ◌++◌, List, sym, subst}
use Rattle.head_column.specs.declared.items.Outcome.{Outcome}
use Rattle.head_core.specs.Applied.{AreCountsOfOutcomes}
use Rattle.replay_rounds.proofs.rounds.end_deal.Goals as goal

pub returns-in_err-count_outcomes-clause-full : goal.returns-in_err-count_outcomes-clause-full
returns-in_err-count_outcomes-clause-full g c = λ e before more all h k w.
    let ended = c.in_ok-parts.ensures.ended in
    let ends = c.in-Ok.ensures.endings c.args.deal ended.deal ended.shares in
    c.in_err-count_outcomes.ensures.full before more all h (subst (λ (os : List Outcome). AreCountsOfOutcomes ((before ++ os) ++ more) all) (sym (c.deref.ensures.value ∙ ends.1)) k) w

pub returns-clause-values : goal.returns-clause-values
returns-clause-values g c = (c.in-Ok.ensures.endings c.args.deal c.in_ok-parts.ensures.ended.deal c.in_ok-parts.ensures.ended.shares).0

pub returns-clause-counted : goal.returns-clause-counted
returns-clause-counted g c = λ before h.
    let ended = c.in_ok-parts.ensures.ended in
    let ends = c.in-Ok.ensures.endings c.args.deal ended.deal ended.shares in
    subst (λ (os : List Outcome). AreCountsOfOutcomes (before ++ os) c.count_outcomes.new.counts) (c.deref.ensures.value ∙ ends.1) (c.in_ok-count_outcomes.ensures.counted before h)
