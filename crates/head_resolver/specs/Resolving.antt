-- What one entry does to a resolver.
use Rattle.std.specs.Prelude.{◌≡◌, ℕ, List, [], ◌++◌, ◌∷◌, ◌⊎◌, Option, None, Some}
use Rattle.wal_record.specs.Entries.{Entry, series, sample, stone}
use Rattle.head_column.specs.declared.items.Item.{Item}
use Rattle.head_series.specs.Table.{Table, slot_at}
use Rattle.head_resolver.specs.declared.counts.Counts.{Counts}
use Rattle.head_resolver.specs.Counts.{bound, sample_item, stone_item, unknown_fate}
use Rattle.head_resolver.specs.Limits.{count_limit, series_limit}
use Rattle.head_resolver.specs.Steps.{with_fate, count_of_fate, IsOverTable, IsTableAfter}
use Rattle.head_resolver.specs.Resolved.{ResolverValue, with_slot}

-- the counts with an item of this slot: an item without a slot is unknown, and the outcome of any other is counted by its column
abbrev pub with_item : Option ℕ → Item → Counts → Counts
with_item None i c = with_fate (unknown_fate i) c
with_item (Some s) i c = c

-- the counts with an entry, by the table
abbrev pub with_entry : Table → Entry → Counts → Counts
with_entry t (series e) c = with_fate bound c
with_entry t (sample s) c = with_item (slot_at t s.reference) (sample_item s) c
with_entry t (stone d) c = with_item (slot_at t d.reference) (stone_item d) c

-- the item of an entry with its slot, by the table
abbrev pub items_by : Table → Entry → List (ℕ × Item)
items_by t (series e) = []
items_by t (sample s) = with_slot (slot_at t s.reference) (sample_item s)
items_by t (stone d) = with_slot (slot_at t d.reference) (stone_item d)

-- what is shown before and after one entry, and its item with its slot
pub record IsResolving (v : ResolverValue) (e : Entry) (items : List (ℕ × Item)) (w : ResolverValue) : Type 0 where
  pub table : IsTableAfter v.table e w.table
  pub items_are : items ≡ items_by v.table e
  pub counts : w.counts ≡ with_entry v.table e v.counts
  pub min_valid : w.min_valid ≡ v.min_valid

-- what is shown before and after some entries, read one after another, and their items with their slots
pub data Resolves (v : ResolverValue) : List Entry → List (ℕ × Item) → ResolverValue → Type 0 where
  none : Resolves v [] [] v
  more : (es : List Entry) (xs : List (ℕ × Item)) (m : ResolverValue) (e : Entry) (ys : List (ℕ × Item)) (w : ResolverValue) → Resolves v es xs m →
      IsResolving m e ys w → Resolves v (es ++ e ∷ []) (xs ++ ys) w

-- an item that comes to this slot can't be counted
abbrev pub IsItemStopped : Option ℕ → Item → Counts → Type 0
IsItemStopped o i c = (o ≡ None) × (count_of_fate (unknown_fate i) c ≡ count_limit)

-- an entry can't be counted
abbrev pub IsCountStopped : Table → Entry → Counts → Type 0
IsCountStopped t (series e) c = c.series_entries ≡ count_limit
IsCountStopped t (sample s) c = IsItemStopped (slot_at t s.reference) (sample_item s) c
IsCountStopped t (stone d) c = IsItemStopped (slot_at t d.reference) (stone_item d) c

-- What keeps an entry from being resolved: the table has no room for it, or the count that it would raise is the greatest.
pub record IsStopped (v : ResolverValue) (e : Entry) : Type 0 where
  pub over : IsOverTable v.table e ⊎ IsCountStopped v.table e v.counts
  pub limit : v.table.most ≡ series_limit

-- Some of the entries were read, and then one could not be.
pub record IsStoppedIn (v : ResolverValue) (es : List Entry) : Type 0 where
  pub front : List Entry
  pub next : Entry
  pub rest : List Entry
  pub items : List (ℕ × Item)
  pub middle : ResolverValue
  pub whole : es ≡ front ++ next ∷ rest
  pub read : Resolves v front items middle
  pub stopped : IsStopped middle next
