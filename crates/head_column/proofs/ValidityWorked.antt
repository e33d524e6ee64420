-- Worked least valid times, by computation.
use Rattle.std.proofs.Common.{◌≡◌, List, [], ◌∷◌, Some, None, refl}
use Rattle.std.specs.Prelude.{ℕ, pos}
use Rattle.head_column.specs.declared.items.Item.{Item}
use Rattle.head_column.specs.declared.items.Item.TheVariants as item
use Rattle.head_column.specs.Histories.{History, history_of, latest}
use Rattle.head_column.specs.Validity.{valid_items, history_from, latest_from}

-- a sample, a deletion
abbrev v : ℕ → ℕ → Item
v time value = item.Sample (record { time = pos time; value = pos value })

abbrev d : ℕ → ℕ → Item
d min_time max_time = item.Stone (record { min_time = pos min_time; max_time = pos max_time })

-- the items of two series
abbrev first : List Item
first = v 100 1 ∷ v 5000 2 ∷ d 0 4999 ∷ d 0 5500 ∷ []

abbrev second : List Item
second = v 200 3 ∷ d 0 999 ∷ []

-- what the least valid time 1000 leaves of the items
left : (valid_items (pos 1000) first ≡ v 5000 2 ∷ d 1000 4999 ∷ d 1000 5500 ∷ []) × (valid_items (pos 1000) second ≡ [])
left = (refl, refl)

-- the history of the first series then
abbrev cut_first : History
cut_first = record { samples = record { time = pos 5000; value = pos 2 } ∷ []; hidden = record { min_time = pos 1000; max_time = pos 5500 } ∷ [] }

-- made of what is left of the items, and left of the history of them all
of_items : history_of (valid_items (pos 1000) first) ≡ cut_first
of_items = refl

of_history : history_from (pos 1000) (history_of first) ≡ cut_first
of_history = refl

nothing : history_from (pos 1000) (history_of second) ≡ record { samples = []; hidden = [] }
nothing = refl

-- a sample at the time itself stays, and so does a run that ends there
at_the_time : history_from (pos 5500) (history_of (v 5499 1 ∷ v 5500 2 ∷ d 0 5500 ∷ []))
    ≡ record { samples = record { time = pos 5500; value = pos 2 } ∷ []; hidden = record { min_time = pos 5500; max_time = pos 5500 } ∷ [] }
at_the_time = refl

-- after the last sample there is no greatest time
greatest_time : (latest_from (pos 5000) (latest (history_of first).samples) ≡ Some (pos 5000)) × (latest_from (pos 5001) (latest (history_of first).samples) ≡ None)
greatest_time = (refl, refl)
