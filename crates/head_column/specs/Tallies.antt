-- The greatest accepted time, and how an item changes it.
use Rattle.std.specs.Prelude.{ℤ, List, Option, Some, int_le, if◌then◌else◌}
use Rattle.head_column.specs.declared.items.Item.{Item}
use Rattle.head_column.specs.declared.items.Item.TheVariants as item
use Rattle.head_column.specs.declared.items.Outcome.{Outcome}
use Rattle.head_column.specs.declared.items.Outcome.TheVariants.{Accepted, Stale, Hidden, EmptyStone}
use Rattle.head_column.specs.Times.{reaches}
use Rattle.head_column.specs.Items.{samples_of}
use Rattle.head_column.specs.Histories.{latest}

-- the greatest time of the samples that are accepted among the items, if there are any
abbrev pub latest_of : List Item → Option ℤ
latest_of items = latest (samples_of items)

-- the greatest accepted time after one more item
abbrev pub latest_after : Option ℤ → Item → Option ℤ
latest_after l (item.Sample s) = if reaches l s.time then l else Some s.time
latest_after l (item.Stone r) = l

-- the outcome of an item after this greatest accepted time
abbrev pub latest_outcome : Option ℤ → Item → Outcome
latest_outcome l (item.Sample s) = if reaches l s.time then Stale else Accepted
latest_outcome l (item.Stone r) = if int_le r.min_time r.max_time then Hidden else EmptyStone
