-- The hours that can be cut.
use Rattle.std.specs.Prelude.{◌≡◌, ℤ, ◌<ℤ◌, List, [], ◌∷◌, Some, Contains, IsTrue}
use Rattle.head_column.specs.Samples.{Sample}
use Rattle.head_column.specs.Histories.{History}
use Rattle.head_column.specs.Hours.{IsEdge, is_in_hour}
use Rattle.head_core.specs.Content.{Content}
use Rattle.block_read.specs.Blocks.{hour_last}

-- An hour is full if some accepted sample has a time at or past its end.
abbrev pub IsFull : ℤ → Content → Type 0
IsFull k c = (t : ℤ) × (c.max_time ≡ Some t) × (hour_last k <ℤ t)

-- an accepted sample of a series is in the hour
pub record HasSample (k : ℤ) (c : Content) : Type 0 where
  pub history : History
  pub sample : Sample
  pub is_history : Contains c.histories history
  pub is_sample : Contains history.samples sample
  pub within : IsTrue (is_in_hour k sample.time)

-- the hour has an accepted sample, and is no edge
pub record IsSampled (k : ℤ) (c : Content) : Type 0 where
  pub some : HasSample k c
  pub whole : IsEdge k → ⊥

-- the hour is full, has an accepted sample, and is no edge
pub record IsRange (k : ℤ) (c : Content) : Type 0 where
  pub full : IsFull k c
  pub some : HasSample k c
  pub whole : IsEdge k → ⊥

-- each number is greater than the one before it
abbrev pub Ascends : List ℤ → Type 0
Ascends [] = Unit {0}
Ascends (k ∷ []) = Unit {0}
Ascends (k ∷ l ∷ more) = (k <ℤ l) × Ascends (l ∷ more)
