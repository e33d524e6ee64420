-- Samples with the slots of their series.
use Rattle.std.specs.Prelude.{◌≡◌, ◌<◌, ◌<ℤ◌, ◌⊎◌, ℕ}
use Rattle.head_column.specs.Samples.{Sample}
use Rattle.head_live.specs.declared.placed.PlacedSample.{PlacedSample}

-- a sample, placed in a slot
abbrev pub placed : ℕ → Sample → PlacedSample
placed slot s = record { slot = slot; time = s.time; value = s.value }

-- the first sample has a lower slot, or the same slot and an earlier time
abbrev pub IsBefore : PlacedSample → PlacedSample → Type 0
IsBefore a b = (a.slot < b.slot) ⊎ ((a.slot ≡ b.slot) × (a.time <ℤ b.time))
