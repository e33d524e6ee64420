use Rattle.std.proofs.Common.{◌++◌, List, take}
use Rattle.head_column.specs.declared.items.Outcome.{Outcome}
use Rattle.head_core.specs.Applied.{AreCountsOfOutcomes}
use Rattle.replay_rounds.proofs.counting.count_outcomes.Given as goal

abbrev pub invariant-loop-outcome : goal.invariant-loop-outcome
invariant-loop-outcome l = (before : List Outcome) → AreCountsOfOutcomes before l.fn.counts → AreCountsOfOutcomes (before ++ take l.outcome-index l.outcomes) l.counts
