-- What the items of a log make, one after another, of slots. V is what a builder in a slot shows, I an item and O an outcome.
use Rattle.std.specs.Prelude.{◌≡◌, ℕ, List, [], ◌∷◌, map, length, replicate, count_by}
use Rattle.std.specs.List.{enumerate_from}
use Rattle.wal_record.specs.Entries.{Entry}
use Rattle.head_deal.specs.Endings.{item_at, told_of, with_outcome_of}
use Rattle.head_column.specs.declared.items.Outcome.{Outcome}
use Rattle.head_series.specs.Bindings.{series_of}
use Rattle.head_resolver.specs.declared.counts.Counts.{Counts}
use Rattle.head_resolver.specs.Owners.{bindings}
use Rattle.head_resolver.specs.Counts.{accepted, stale, hides, empty_stone, fate_of, is_fate}

-- the slots' values after these items, each applied, in order, to the value of its slot
abbrev pub values_after : {V I : Type 0} → (V → I → V) → List (ℕ × V) → List (ℕ × I) → List (ℕ × V)
values_after after slots [] = slots
values_after after slots (k ∷ ks) = values_after after (map (item_at after k.0 k.1) slots) ks

-- what becomes of each of these items, in order
abbrev pub outcomes_after : {V I O : Type 0} → (V → I → V) → (V → I → O) → List (ℕ × V) → List (ℕ × I) → List O
outcomes_after after outcome slots [] = []
outcomes_after after outcome slots (k ∷ ks) = with_outcome_of (told_of outcome k.0 k.1 slots) (outcomes_after after outcome (map (item_at after k.0 k.1) slots) ks)

-- a slot of this value for each series of the entries
abbrev pub new_slots : {V : Type 0} → V → List Entry → List (ℕ × V)
new_slots v es = enumerate_from 0 (replicate (length (series_of (bindings es))) v)

-- The counts tell how many of these outcomes there are of each kind.
pub record AreCountsOfOutcomes (os : List Outcome) (c : Counts) : Type 0 where
  pub accepted : c.accepted ≡ count_by (is_fate accepted) (map fate_of os)
  pub stale : c.stale ≡ count_by (is_fate stale) (map fate_of os)
  pub hiding : c.hiding ≡ count_by (is_fate hides) (map fate_of os)
  pub empty_stones : c.empty_stones ≡ count_by (is_fate empty_stone) (map fate_of os)
