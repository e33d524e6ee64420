use Rattle.std.proofs.Common.{◌++◌, List, take}
use Rattle.std.specs.List.{flat_map}
use Rattle.head_deal.specs.Endings.{outcomes}
use Rattle.head_column.specs.declared.items.Outcome.{Outcome}
use Rattle.head_core.specs.Applied.{AreCountsOfOutcomes}
use Rattle.replay_rounds.proofs.counting.count_parts.Given as goal

abbrev pub invariant-loop-part : goal.invariant-loop-part
invariant-loop-part g l = (before : List Outcome) → AreCountsOfOutcomes before l.fn.counts → AreCountsOfOutcomes (before ++ flat_map (λ p. outcomes p.jobs) (take l.part-index l.parts)) l.counts
