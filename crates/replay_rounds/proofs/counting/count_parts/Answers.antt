use Rattle.std.proofs.Common.{◌≡◌, ◌∙◌, ◌+◌, ◌++◌, List, take, drop, sym, ap, subst, arith}
use Rattle.std.specs.Prelude.{slice_index_or}
use Rattle.std.specs.List.{flat_map}
use Rattle.std.proofs.lemmas.List.{append-nil, take_all}
use Rattle.head_deal.specs.Endings.{outcomes}
use Rattle.head_column.specs.declared.items.Outcome.{Outcome}
use Rattle.head_core.specs.Applied.{AreCountsOfOutcomes}
use Rattle.replay_rounds.proofs.Counted.{on_err_always, parts_more, parts_split}
use Rattle.replay_rounds.proofs.counting.count_parts.Goals as goal

pub loop-part-init : goal.loop-part-init
loop-part-init g c = λ before h. subst (λ (os : List Outcome). AreCountsOfOutcomes os c.args.counts.now) (sym (append-nil before)) h

pub loop-part-preserved : goal.loop-part-preserved
loop-part-preserved g c = λ before h.
    let parts = c.args.parts.now in
    let i = c.loop-part.part-index in
    let part = c.part-item.result in
    let own : c.outcomes.result.now ≡ outcomes (slice_index_or parts i part).jobs = c.outcomes.ensures ∙ ap (λ p. outcomes p.jobs) c.part-item.is in
    subst (λ (os : List Outcome). AreCountsOfOutcomes os c.count_outcomes.new.counts)
    (ap (λ (os : List Outcome). (before ++ flat_map (λ p. outcomes p.jobs) (take i parts)) ++ os) own ∙ parts_more (λ p. outcomes p.jobs) before parts i part c.loop-part-test.true)
    (c.in_ok-count_outcomes.ensures.counted (before ++ flat_map (λ p. outcomes p.jobs) (take i parts)) (c.loop-part.invariant before h))

pub returns-in_err-count_outcomes-clause-full : goal.returns-in_err-count_outcomes-clause-full
returns-in_err-count_outcomes-clause-full g c = on_err_always c.from_residual.result (λ before more all h k w.
    let parts = c.args.parts.now in
    let i = c.loop-part.part-index in
    let part = c.part-item.result in
    let own : c.outcomes.result.now ≡ outcomes (slice_index_or parts i part).jobs = c.outcomes.ensures ∙ ap (λ p. outcomes p.jobs) c.part-item.is in
    let rest : List Outcome = flat_map (λ p. outcomes p.jobs) (drop (i + 1) parts) in
    let so_far : List Outcome = before ++ flat_map (λ p. outcomes p.jobs) (take i parts) in
    c.in_err-count_outcomes.ensures.full so_far (rest ++ more) all (c.loop-part.invariant before h)
    (subst (λ (os : List Outcome). AreCountsOfOutcomes os all) (parts_split (λ p. outcomes p.jobs) before more parts i part c.loop-part-test.true ∙ ap (λ (os : List Outcome). (so_far ++ os) ++ (rest ++ more)) (sym own)) k) w)

pub returns-clause-counted : goal.returns-clause-counted
returns-clause-counted g c = λ before h.
    let parts = c.args.parts.now in
    let all = take_all c.loop-part.part-index parts (omega (arith, c.loop-part-test.false)) in
    subst (λ ps. AreCountsOfOutcomes (before ++ flat_map (λ p. outcomes p.jobs) ps) c.loop-part.counts) all (c.loop-part.invariant before h)
