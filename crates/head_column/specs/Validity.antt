-- What the least valid time m, in milliseconds, leaves of the items of one series and of its history. A sample is expired if its time
-- is less than m, a deletion if its greatest time is less than m.
use Rattle.std.specs.Prelude.{ℤ, ◌≤ℤ◌, List, [], ◌∷◌, Option, None, filter, int_le, int_lt, if◌then◌else◌}
use Rattle.std.specs.Int.{int_max}
use Rattle.std.specs.List.{flat_map}
use Rattle.xor_chunk.specs.declared.sample.Sample.{Sample}
use Rattle.head_column.specs.declared.items.Run.{Run}
use Rattle.head_column.specs.declared.items.Item.{Item}
use Rattle.head_column.specs.declared.items.Item.TheVariants as item
use Rattle.head_column.specs.Times.{reaches}
use Rattle.head_column.specs.Histories.{History}

-- The run without its times before m. An empty one whose greatest time is not before m is unchanged: its least time is greater still.
abbrev pub raised : ℤ → Run → Run
raised m r = record r { min_time = int_max m r.min_time }

-- what m leaves of an item: a sample, a deletion without its times before m, or nothing of what is expired
abbrev pub valid_item : ℤ → Item → List Item
valid_item m (item.Sample s) = if int_le m s.time then item.Sample s ∷ [] else []
valid_item m (item.Stone r) = if int_le m r.max_time then item.Stone (raised m r) ∷ [] else []

-- what m leaves of each item, in order
abbrev pub valid_items : ℤ → List Item → List Item
valid_items m items = flat_map (valid_item m) items

-- the item is not expired
abbrev pub IsValid : ℤ → Item → Type 0
IsValid m (item.Sample s) = m ≤ℤ s.time
IsValid m (item.Stone r) = m ≤ℤ r.max_time

-- what m leaves of an item that is not expired
abbrev pub item_from : ℤ → Item → Item
item_from m (item.Sample s) = item.Sample s
item_from m (item.Stone r) = item.Stone (raised m r)

-- the samples whose times are not before m
abbrev pub samples_from : ℤ → List Sample → List Sample
samples_from m samples = filter (λ s. int_le m s.time) samples

-- the samples whose times are before m
abbrev pub samples_before : ℤ → List Sample → List Sample
samples_before m samples = filter (λ s. int_lt s.time m) samples

-- the run without its times before m, or nothing if it ends before m
abbrev pub run_from : ℤ → Run → List Run
run_from m r = if int_le m r.max_time then raised m r ∷ [] else []

-- the runs without their times before m
abbrev pub runs_from : ℤ → List Run → List Run
runs_from m runs = flat_map (run_from m) runs

-- the history without the samples and the hidden times before m
abbrev pub history_from : ℤ → History → History
history_from m h = record { samples = samples_from m h.samples; hidden = runs_from m h.hidden }

-- the greatest time, if it is not before m
abbrev pub latest_from : ℤ → Option ℤ → Option ℤ
latest_from m l = if reaches l m then l else None

-- the runs, the first one without its times before m
abbrev pub raise_first : ℤ → List Run → List Run
raise_first m [] = []
raise_first m (r ∷ rs) = raised m r ∷ rs
