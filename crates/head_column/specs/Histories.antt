-- The history of a series, and how an item changes it.
use Rattle.std.specs.Prelude.{◌≡◌, ℕ, ℤ, Bool, List, [], ◌∷◌, ◌++◌, Option, map, int_le, if◌then◌else◌}
use Rattle.std.specs.List.{list_any, fold}
use Rattle.xor_chunk.specs.declared.sample.Sample.{Sample}
use Rattle.head_column.specs.declared.items.Run.{Run}
use Rattle.head_column.specs.declared.items.Item.{Item}
use Rattle.head_column.specs.declared.items.Item.TheVariants as item
use Rattle.head_column.specs.declared.items.Outcome.{Outcome}
use Rattle.head_column.specs.declared.items.Outcome.TheVariants.{Accepted, Stale, Hidden, EmptyStone}
use Rattle.head_column.specs.Times.{greatest}
use Rattle.head_column.specs.Runs.{AreRunsOf}
use Rattle.head_column.specs.Merging.{with_run, with_runs}
use Rattle.head_column.specs.Items.{samples_of, is_hidden}

-- what is kept of a series: the accepted samples, in order, and the runs of the hidden times
pub record History : Type 0 where
  pub samples : List Sample
  pub hidden : List Run

-- The items make this history: its samples are the accepted ones, and its runs are the maximal runs of the hidden times.
pub record IsHistoryOf (items : List Item) (h : History) : Type 0 where
  pub samples : h.samples ≡ samples_of items
  pub hidden : AreRunsOf (is_hidden items) h.hidden

-- the history of no items
abbrev pub no_history : History
no_history = record { samples = []; hidden = [] }

-- the greatest time of some samples, if there are any
abbrev pub latest : List Sample → Option ℤ
latest samples = greatest (map (λ s. s.time) samples)

-- whether some sample has an equal or later time
abbrev pub has_reached : List Sample → ℤ → Bool
has_reached samples t = list_any (λ s. int_le t s.time) samples

-- the history after one more item
abbrev pub history_after : History → Item → History
history_after h (item.Sample s) = if has_reached h.samples s.time then h else record { samples = h.samples ++ s ∷ []; hidden = h.hidden }
history_after h (item.Stone r) = if int_le r.min_time r.max_time then record { samples = h.samples; hidden = with_run h.hidden r } else h

-- the outcome of an item after this history
abbrev pub history_outcome : History → Item → Outcome
history_outcome h (item.Sample s) = if has_reached h.samples s.time then Stale else Accepted
history_outcome h (item.Stone r) = if int_le r.min_time r.max_time then Hidden else EmptyStone

-- the history of the items, made item by item
abbrev pub history_of : List Item → History
history_of items = fold history_after no_history items

-- the history with the times of these runs hidden too
abbrev pub history_with : History → List Run → History
history_with h runs = record { samples = h.samples; hidden = with_runs h.hidden runs }

-- what contracts see of a column: its history, and a number of items that it takes without allocating
pub record ColumnValue : Type 0 where
  pub history : History
  pub spare : ℕ
