-- The state of `Head::reserve`, for which room was made so far: words of proofs and of private functions, which no public contract cites.
use Rattle.std.specs.Prelude.{◌≡◌, ℕ, ◌<◌, ◌≤◌, List, [], ◌∷◌, ◌++◌, Option, None, Some, All, length, count_by, nat_eq, unwrap_or}
use Rattle.std.specs.Map.{lookup}
use Rattle.hw_bytes.specs.Lists.{or_else}
use Rattle.wal_record.specs.Labels.{same_labels}
use Rattle.wal_record.specs.Entries.{Entry, series, sample, stone}
use Rattle.head_column.specs.Histories.{ColumnValue, no_history}
use Rattle.head_series.specs.Texts.{place}
use Rattle.head_series.specs.Table.{Labels, Table, slot_at, with_series}
use Rattle.head_series.specs.Room as table_room
use Rattle.head_postings.specs.Room as postings_room
use Rattle.head_resolver.specs.Owners.{bindings}
use Rattle.head_core.specs.Content.{Content, AreAlike}
use Rattle.head_core.specs.Heads.{HeadValue}
use Rattle.head_core.specs.Room.{sets_of, pointed, targets, spare_at, HaveSpare, ReservedValue, spares_with}

-- What was made for the records so far; and of these the label sets that will be new, the slot that each reference which they bind will
-- have, and the number of items of each slot.
pub record Drafted : Type 0 where
  pub plan : table_room.Planned
  pub batch : postings_room.Counted
  pub made : ReservedValue
  pub series : List Labels
  pub slots : List (ℕ × ℕ)
  pub counts : List (ℕ × ℕ)

-- the label sets of a table, if there is one
abbrev pub series_in : Option Table → List Labels
series_in None = []
series_in (Some table) = table.series

-- the slot that a reference will have: the one that it is to be bound to, or else the one that it has
abbrev pub slot_after : Drafted → (ℕ → Option ℕ) → ℕ → Option ℕ
slot_after d at r = or_else (lookup (nat_eq r) d.slots) (at r)

-- the number at a slot
abbrev pub count_in : List (ℕ × ℕ) → ℕ → ℕ
count_in counts s = unwrap_or (lookup (nat_eq s) counts) 0

-- the first entry, if there is one, with the others
abbrev pub first_and : Option (ℕ × ℕ) → List (ℕ × ℕ) → List (ℕ × ℕ)
first_and None others = others
first_and (Some first) others = first ∷ others

-- the number of items of a slot
abbrev pub many_at : Drafted → ℕ → ℕ
many_at d s = count_in d.counts s

-- the slots of references after the entries
abbrev pub slots_behind : List Labels → (ℕ → Option ℕ) → List Entry → ℕ → Option ℕ
slots_behind ss at [] = at
slots_behind ss at (series e ∷ es) = slots_behind (with_series ss e.labels) (pointed at e.reference (place (same_labels e.labels) (with_series ss e.labels))) es
slots_behind ss at (sample s ∷ es) = slots_behind ss at es
slots_behind ss at (stone d ∷ es) = slots_behind ss at es

-- the entry is an item of this reference
abbrev pub IsItemEntry : Entry → ℕ → Type 0
IsItemEntry (series e) r = ⊥
IsItemEntry (sample s) r = s.reference ≡ r
IsItemEntry (stone d) r = d.reference ≡ r

-- The draft has noted these entries: the series that they make new, after those before; the slots of their references; and the number of
-- items of each slot.
pub record IsNoted (ss : List Labels) (at : ℕ → Option ℕ) (d : Drafted) (es : List Entry) : Type 0 where
  pub series : ss ++ d.series ≡ table_room.series_after ss (bindings es)
  pub slots : (r : ℕ) → slot_after d at r ≡ slots_behind ss at es r
  pub within : (r s : ℕ) → lookup (nat_eq r) d.slots ≡ Some s → s < length (ss ++ d.series)
  pub many : (s : ℕ) → many_at d s ≡ count_by (nat_eq s) (targets ss at es)

-- each new series has a column, which is empty
pub record HaveColumns (d : Drafted) : Type 0 where
  pub each : length d.made.columns ≡ length d.series
  pub unused : All (λ c. c.history ≡ no_history) d.made.columns

-- there are more columns, after those that there were
abbrev pub IsLonger : List ColumnValue → List ColumnValue → Type 0
IsLonger cs ds = (more : List ColumnValue) × (ds ≡ cs ++ more)

-- there are as many columns, and each takes at least as many items as before
pub record AreWider (xs ys : List ℕ) : Type 0 where
  pub many : length ys ≡ length xs
  pub each : (s : ℕ) → spare_at xs s ≤ spare_at ys s

-- room was made for these entries, except in the list of columns
pub record IsDraft (h : HeadValue) (d : Drafted) (es : List Entry) : Type 0 where
  pub ready : d.made.ready ≡ sets_of es
  pub table : table_room.IsReserved h.content.table (bindings es) d.plan
  pub postings : postings_room.IsReserved h.content.postings (sets_of es) d.batch
  pub own : length h.room.spares ≡ length h.content.table.series
  pub columns : HaveColumns d
  pub noted : IsNoted h.content.table.series (slot_at h.content.table) d es
  pub spares : HaveSpare (spares_with h.room d.made) (targets h.content.table.series (slot_at h.content.table) es)

-- No call tells the two heads apart, the one has failed if the other has, and they have the same limit.
pub record IsKept (h k : HeadValue) : Type 0 where
  pub content : AreAlike h.content k.content
  pub failed : k.failed ≡ h.failed
  pub most : k.content.table.most ≡ h.content.table.most

-- if these entries are taken, neither the series nor their texts pass the limit
abbrev pub FitsIn : Content → List Entry → Type 0
FitsIn c es = table_room.Fits c.table.most c.table.series c.table.texts (bindings es)
