-- The outcomes of the items of a series, in order.
use Rattle.std.specs.Prelude.{ℤ, Bool, false, List, [], ◌∷◌, int_le, if◌then◌else◌}
use Rattle.std.specs.List.{list_any}
use Rattle.hw_bytes.specs.Lists.{along}
use Rattle.xor_chunk.specs.declared.sample.Sample.{Sample}
use Rattle.head_column.specs.declared.items.Item.{Item}
use Rattle.head_column.specs.declared.items.Item.TheVariants as item
use Rattle.head_column.specs.declared.items.Outcome.{Outcome}
use Rattle.head_column.specs.declared.items.Outcome.TheVariants.{Accepted, Stale, Hidden, EmptyStone}
use Rattle.head_column.specs.Runs.{spans}

-- whether the item is a sample at time t or later
abbrev pub is_reached_by : ℤ → Item → Bool
is_reached_by t (item.Sample s) = int_le t s.time
is_reached_by t (item.Stone r) = false

-- A sample at time t is stale if a sample before it, accepted or stale itself, has an equal or later time.
abbrev pub is_stale : List Item → ℤ → Bool
is_stale before t = list_any (is_reached_by t) before

-- the outcome of an item that comes after these items of its series
abbrev pub outcome_of : List Item → Item → Outcome
outcome_of before (item.Sample s) = if is_stale before s.time then Stale else Accepted
outcome_of before (item.Stone r) = if int_le r.min_time r.max_time then Hidden else EmptyStone

-- the outcome of each item, in order
abbrev pub outcomes_of : List Item → List Outcome
outcomes_of items = along (λ before i. outcome_of before i ∷ []) items

-- the item's sample, if it is accepted
abbrev pub accepted : List Item → Item → List Sample
accepted before (item.Sample s) = if is_stale before s.time then [] else s ∷ []
accepted before (item.Stone r) = []

-- the accepted samples, in order
abbrev pub samples_of : List Item → List Sample
samples_of items = along accepted items

-- whether the item is a deletion of time t
abbrev pub is_hidden_by : ℤ → Item → Bool
is_hidden_by t (item.Sample s) = false
is_hidden_by t (item.Stone r) = spans r t

-- whether some deletion among the items hides time t
abbrev pub is_hidden : List Item → ℤ → Bool
is_hidden items t = list_any (is_hidden_by t) items
