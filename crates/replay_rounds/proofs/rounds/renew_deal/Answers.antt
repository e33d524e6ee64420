use Rattle.std.proofs.Common.{◌≡◌, ◌∙◌, ◌++◌, List, sym, ap, subst}
use Rattle.std.specs.List.{flat_map}
use Rattle.head_deal.specs.Dealing.{course, ending_outcomes}
use Rattle.head_deal.specs.Endings.{outcomes}
use Rattle.head_column.specs.declared.items.Outcome.{Outcome}
use Rattle.head_core.specs.Applied.{AreCountsOfOutcomes}
use Rattle.replay_rounds.proofs.Counted.{Alike, alike_back, alike_before, alike_behind, counts_alike}
use Rattle.replay_rounds.proofs.rounds.renew_deal.Goals as goal

pub deal_again-requires-clause-ended : goal.deal_again-requires-clause-ended
deal_again-requires-clause-ended g c = (c.args.deal, c.in_ok-parts.ensures.ended)

pub returns-in_err-count_parts-clause-full : goal.returns-in_err-count_parts-clause-full
returns-in_err-count_parts-clause-full g c = λ e before more all h k w.
    let parts = c.in_ok-parts.parts.items in
    let told : List Outcome = flat_map (λ p. outcomes p.jobs) parts in
    let endings : List Outcome = ending_outcomes g.B.Builder.after g.B.Builder.outcome (course g.B.Builder.value c.args.deal) in
    let alike : Alike told endings = λ test. c.outcomes_in_parts.ensures c.args.deal parts test c.in_ok-parts.ensures.ended in
    let in_parts = counts_alike ((before ++ endings) ++ more) ((before ++ told) ++ more) all (alike_before (before ++ endings) (before ++ told) more (alike_behind before endings told (alike_back told endings alike))) k in
    c.in_err-count_parts.ensures.full before more all h (subst (λ ps. AreCountsOfOutcomes ((before ++ flat_map (λ p. outcomes p.jobs) ps) ++ more) all) (sym c.deref.ensures.value) in_parts) w

pub returns-clause-new : goal.returns-clause-new
returns-clause-new g c =
    let new = c.in-Ok.ensures.new in
    let e = c.in-Ok.renewed in
    let workers : e.workers ≡ c.args.deal.workers = new.1 ∙ c.in_ok-parts.ensures.ended.each in
    ap (λ t. record { tag = t; workers = e.workers; builders = e.builders; jobs = e.jobs }) new.0
    ∙ ap (λ n. record { tag = c.args.next; workers = n; builders = e.builders; jobs = e.jobs }) workers
    ∙ ap (λ js. record { tag = c.args.next; workers = c.args.deal.workers; builders = e.builders; jobs = js }) new.2

pub returns-clause-values : goal.returns-clause-values
returns-clause-values g c = c.in-Ok.ensures.values c.args.deal c.in_ok-parts.ensures.ended

pub returns-clause-counted : goal.returns-clause-counted
returns-clause-counted g c = λ before h.
    let parts = c.in_ok-parts.parts.items in
    let told : List Outcome = flat_map (λ p. outcomes p.jobs) parts in
    let endings : List Outcome = ending_outcomes g.B.Builder.after g.B.Builder.outcome (course g.B.Builder.value c.args.deal) in
    let alike : Alike told endings = λ test. c.outcomes_in_parts.ensures c.args.deal parts test c.in_ok-parts.ensures.ended in
    let in_parts = subst (λ ps. AreCountsOfOutcomes (before ++ flat_map (λ p. outcomes p.jobs) ps) c.count_parts.new.counts) c.deref.ensures.value (c.in_ok-count_parts.ensures.counted before h) in
    counts_alike (before ++ told) (before ++ endings) c.count_parts.new.counts (alike_behind before told endings alike) in_parts
