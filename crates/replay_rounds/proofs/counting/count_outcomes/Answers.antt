use Rattle.std.proofs.Common.{◌≡◌, ◌++◌, List, take, subst, arith}
use Rattle.std.proofs.Math.Seq.{take-length}
use Rattle.head_column.specs.declared.items.Outcome.{Outcome}
use Rattle.head_core.specs.Applied.{AreCountsOfOutcomes}
use Rattle.replay_rounds.proofs.Counted.{counted_more, on_err_always, over_at}
use Rattle.replay_rounds.proofs.counting.count_outcomes.Goals as goal

pub returns-in_err-add_outcome-clause-full : goal.returns-in_err-add_outcome-clause-full
returns-in_err-add_outcome-clause-full c = on_err_always c.from_residual.result (λ before more all h k w.
    over_at before c.args.outcomes.now more c.loop-outcome.outcome-index _ c.loop-outcome.counts all c.loop-outcome-test.true (c.loop-outcome.invariant before h) c.in_err-add_outcome.ensures.full k w)

pub loop-outcome-preserved : goal.loop-outcome-preserved
loop-outcome-preserved c = λ before h. counted_more before c.args.outcomes.now c.loop-outcome.outcome-index _ c.loop-outcome.counts c.add_outcome.new.self c.loop-outcome-test.true (c.loop-outcome.invariant before h) c.in_ok-add_outcome.ensures.more

pub returns-clause-counted : goal.returns-clause-counted
returns-clause-counted c = λ before h.
    let ended = c.loop-outcome-test.false in
    let up = c.loop-outcome.auto.outcome-index-end in
    let all : take c.loop-outcome.outcome-index c.args.outcomes.now ≡ c.args.outcomes.now = subst (λ (n : _). take n c.args.outcomes.now ≡ c.args.outcomes.now) (omega (arith, ended, up)) (take-length c.args.outcomes.now) in
    subst (λ (os : List Outcome). AreCountsOfOutcomes (before ++ os) c.loop-outcome.counts) all (c.loop-outcome.invariant before h)
