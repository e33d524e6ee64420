-- What contracts see of a head, and its invariant.
use Rattle.std.specs.Prelude.{◌≡◌, ◌<◌, ℕ, Bool, List, All, length, slice_get, unwrap_or}
use Rattle.head_column.specs.Histories.{History, no_history}
use Rattle.head_series.specs.Table.{Table}
use Rattle.head_postings.specs.Slots.{AreBelow}
use Rattle.head_postings.specs.Postings.{Lists}
use Rattle.head_core.specs.Content.{Content}

-- the number of columns that can be added without allocating, and the number of items that each column takes without allocating
pub record ColumnRoom : Type 0 where
  pub columns : ℕ
  pub spares : List ℕ

-- The content of a head, and whether it has failed; and the room of its columns, which no call shows.
pub record HeadValue : Type 0 where
  pub content : Content
  pub failed : Bool
  pub room : ColumnRoom

-- the history of the series in a slot
abbrev pub history_at : Content → ℕ → History
history_at c slot = unwrap_or (slice_get c.histories slot) no_history

-- each of these is the slot of a series
abbrev pub AreSlots : Content → List ℕ → Type 0
AreSlots c slots = All (λ s. s < length c.table.series) slots

-- each series has a history, and each slot of the postings a series
pub record IsWhole (table : Table) (columns : ℕ) (postings : Lists) : Type 0 where
  pub one_each : columns ≡ length table.series
  pub below : AreBelow (length table.series) postings.all
