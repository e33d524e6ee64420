-- Rounds so far: words of the crate's contracts, and of those above it.
use Rattle.std.specs.Prelude.{ℕ, List}
use Rattle.head_column.specs.declared.items.Item.{Item}
use Rattle.head_column.specs.declared.items.Outcome.{Outcome}
use Rattle.head_column.specs.declared.items.Run.{Run}
use Rattle.replay_rounds.specs.Applying.{Ends}
use Rattle.replay_rounds.specs.declared.rounds.Rounds.{Rounds}

module _ {B V : Type 0} (value : B → V) (after : V → Item → V) (outcome : V → Item → Outcome) where
  -- these items were dealt to these slots, and each slot ends with what its items make of it
  abbrev pub HasDealt : List (ℕ × V) → List (ℕ × Item) → Rounds B Item Outcome → Type 0
  HasDealt slots items rounds = Ends value after outcome slots items rounds.deal rounds.counts

-- the ghost words of the trait `SeriesBuilder` at a type: what `B.SeriesBuilder` is in a clause
abbrev pub SeriesWords : Type 0 → Type 1
SeriesWords B = record { Value : Type 0; value : B → Value; after : Value → Item → Value; outcome : Value → Item → Outcome; blank : Run → B }
