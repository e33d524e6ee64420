-- What contracts see of the crate's private maps: their lists, and the room that these have. No public contract cites this file.
use Rattle.std.specs.Prelude.{ℕ, List, replicate}
use Rattle.head_postings.specs.Postings.{Text}

-- The map of one name: beside each value its slots, and a list with as many places as the slots have room for more. That is a list so
-- that `listed` can be used for both.
pub record Placed : Type 0 where
  pub slots : List (Text × List ℕ)
  pub rooms : List (Text × List (Unit {0}))

-- n places
abbrev pub places : ℕ → List (Unit {0})
places n = replicate n tt

-- The map of all names: beside each name, the two lists of a `Placed`.
pub record NamedPlaced : Type 0 where
  pub slots : List (Text × List (Text × List ℕ))
  pub rooms : List (Text × List (Text × List (Unit {0})))
