use Rattle.std.proofs.Common.{◌++◌, ◌∷◌, [], sym, subst}
use Rattle.head_core.specs.Applied.{AreCountsOfOutcomes}
use Rattle.replay_rounds.proofs.Counted.{on_err_of, on_ok_of, one_more, over}
use Rattle.replay_rounds.proofs.counting.count_outcome.Goals as goal

pub returns-clause-counted : goal.returns-clause-counted
returns-clause-counted c = λ before h. on_ok_of c.add_outcome.result c.add_outcome.ensures.more (λ is. subst (AreCountsOfOutcomes (before ++ c.args.outcome ∷ [])) (sym is) (one_more before c.args.outcome c.args.counts.now h))

pub returns-clause-full : goal.returns-clause-full
returns-clause-full c = on_err_of c.add_outcome.result c.add_outcome.ensures.full (λ full before more all h k w. over c.args.outcome before more c.args.counts.now all h full k w)
