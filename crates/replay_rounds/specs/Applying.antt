-- Items dealt to workers.
use Rattle.std.specs.Prelude.{◌≡◌, ◌++◌, ℕ, List}
use Rattle.head_deal.specs.Dealing.{Dealing, course, end_slots, ending_outcomes}
use Rattle.head_column.specs.declared.items.Item.{Item}
use Rattle.head_column.specs.declared.items.Outcome.{Outcome}
use Rattle.head_resolver.specs.declared.counts.Counts.{Counts}
use Rattle.head_core.specs.Applied.{values_after, outcomes_after, AreCountsOfOutcomes}

-- These items, applied to these slots one after another, make what the deal ends with. The counts are those of the outcomes that were
-- counted in rounds before it.
pub record Ends {B V : Type 0} (value : B → V) (after : V → Item → V) (outcome : V → Item → Outcome) (slots : List (ℕ × V)) (items : List (ℕ ×
    Item)) (d : Dealing B Item Outcome) (c : Counts) : Type 0 where
  pub values : end_slots after (course value d) ≡ values_after after slots items
  pub counted : List Outcome
  pub outcomes : counted ++ ending_outcomes after outcome (course value d) ≡ outcomes_after after outcome slots items
  pub counts : AreCountsOfOutcomes counted c
