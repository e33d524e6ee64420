-- The room of a head for records.
use Rattle.std.specs.Prelude.{◌≡◌, ℕ, ◌+◌, ◌≤◌, ◌<◌, ◌==◌, false, List, [], ◌∷◌, ◌++◌, Option, None, Some, All, length, map, count_by, nat_eq, slice_get, unwrap_or, if◌then◌else◌}
use Rattle.wal_record.specs.declared.record.WalRecord.{WalRecord}
use Rattle.wal_record.specs.Labels.{same_labels}
use Rattle.wal_record.specs.Entries.{Entry, series, sample, stone, entries_of}
use Rattle.head_column.specs.declared.items.Item.{Item}
use Rattle.head_column.specs.Histories.{ColumnValue, no_history}
use Rattle.head_series.specs.Texts.{place}
use Rattle.head_series.specs.Table.{Labels, Table, slot_at, with_series}
use Rattle.head_series.specs.Room as table_room
use Rattle.head_postings.specs.Room as postings_room
use Rattle.head_resolver.specs.Room.{HaveCounts, HaveClasses, HaveExpired}
use Rattle.head_resolver.specs.Owners.{bindings}
use Rattle.head_resolver.specs.Counts.{Fate, bound, accepted, stale, unknown, hides, empty_stone, unknown_stone}
use Rattle.head_resolver.specs.Limits.{count_limit}
use Rattle.head_resolver.specs.Steps.{count_of_fate}
use Rattle.head_core.specs.Content.{Content}
use Rattle.head_core.specs.Heads.{ColumnRoom, HeadValue}
use Rattle.head_core.specs.Steps.{found, told, told_item}

-- the label sets that the entries bind, in order, each as often as it is bound
abbrev pub sets_of : List Entry → List Labels
sets_of es = map (λ b. b.labels) (bindings es)

-- the slots of references, with that of the reference q replaced by this one
abbrev pub pointed : (ℕ → Option ℕ) → ℕ → Option ℕ → ℕ → Option ℕ
pointed at q slot = λ r. if q == r then slot else at r

abbrev pub to_slot : Option ℕ → List ℕ → List ℕ
to_slot None slots = slots
to_slot (Some s) slots = s ∷ slots

-- The slots of the items among the entries, in order: that of an item is the slot of its reference at its place, if it has one. Before the
-- entries the series are `ss`, and the slots of references `at`.
abbrev pub targets : List Labels → (ℕ → Option ℕ) → List Entry → List ℕ
targets ss at [] = []
targets ss at (series e ∷ es) = targets (with_series ss e.labels) (pointed at e.reference (place (same_labels e.labels) (with_series ss e.labels))) es
targets ss at (sample s ∷ es) = to_slot (at s.reference) (targets ss at es)
targets ss at (stone d ∷ es) = to_slot (at d.reference) (targets ss at es)

-- the number of items that the column of a slot takes without allocating
abbrev pub spare_at : List ℕ → ℕ → ℕ
spare_at spares s = unwrap_or (slice_get spares s) 0

-- each column takes the items of its slot without allocating
abbrev pub HaveSpare : List ℕ → List ℕ → Type 0
HaveSpare spares slots = (s : ℕ) → count_by (nat_eq s) slots ≤ spare_at spares s

-- What was made for a list of records: for each label set that they bind, in order, the memory of the binding; and columns for the series
-- that will be new.
pub record ReservedValue : Type 0 where
  pub ready : List Labels
  pub columns : List ColumnValue

-- the number of items that each column takes without allocating: first the columns of a head, then those that were made
abbrev pub spares_with : ColumnRoom → ReservedValue → List ℕ
spares_with r m = r.spares ++ map (λ c. c.spare) m.columns

-- These entries can be taken in turn, with what was made for them, without allocating.
pub record HasRoom (h : HeadValue) (m : ReservedValue) (es : List Entry) : Type 0 where
  pub ready : m.ready ≡ sets_of es
  pub table : table_room.HasRoom h.content.table (bindings es)
  pub postings : postings_room.HasRoom h.content.postings (sets_of es)
  pub columns : length (bindings es) ≤ h.room.columns
  pub made : length (table_room.series_after h.content.table.series (bindings es)) ≤ length h.room.spares + length m.columns
  pub unused : All (λ c. c.history ≡ no_history) m.columns
  pub spares : HaveSpare (spares_with h.room m) (targets h.content.table.series (slot_at h.content.table) es)
  pub counts : HaveCounts h.content.counts es

-- The records can be applied in turn, with what was made for them, without allocating.
pub record IsReserved (h : HeadValue) (m : ReservedValue) (rs : List WalRecord) : Type 0 where
  pub sound : h.failed ≡ false
  pub room : HasRoom h m (entries_of rs)
  pub classes : HaveClasses h.content.counts rs
  pub expired : HaveExpired h.content.counts (entries_of rs)

-- The content with these records is within the limits of series and texts, and no count can pass its limit.
pub record Fits (c : Content) (rs : List WalRecord) : Type 0 where
  pub table : table_room.Fits c.table.most c.table.series c.table.texts (bindings (entries_of rs))
  pub counts : HaveCounts c.counts (entries_of rs)
  pub classes : HaveClasses c.counts rs
  pub expired : HaveExpired c.counts (entries_of rs)

-- The item can be taken without allocating: the column of its reference has room for it, and so has its count. A word of proofs, which no
-- public contract cites.
pub record CanPut (h : HeadValue) (m : ReservedValue) (r : ℕ) (i : Item) : Type 0 where
  pub spare : (s : ℕ) → slot_at h.content.table r ≡ Some s → 0 < spare_at (spares_with h.room m) s
  pub count : count_of_fate (told_item (found h.content.table h.content.histories r) i) h.content.counts < count_limit

-- The most room that an item takes: h is the head before it, k the head after it. A word of proofs, which no public contract cites.
pub record PutUses (h k : HeadValue) (r : ℕ) : Type 0 where
  pub columns : k.room.columns ≡ h.room.columns
  pub length : length k.room.spares ≡ length h.room.spares
  pub spares : (s : ℕ) → spare_at h.room.spares s ≤ spare_at k.room.spares s + count_by (nat_eq s) (to_slot (slot_at h.content.table r) [])

-- The entries bind nothing, and the reference of no item among them has a slot.
abbrev pub IsIdle : Table → List Entry → Type 0
IsIdle t es = (bindings es ≡ []) × (targets t.series (slot_at t) es ≡ [])

-- What becomes of an entry changes a count alone: it is an unknown item, a stale sample or an empty deletion.
abbrev pub IsOnlyCounted : Fate → Type 0
IsOnlyCounted bound = ⊥
IsOnlyCounted accepted = ⊥
IsOnlyCounted stale = Unit {0}
IsOnlyCounted unknown = Unit {0}
IsOnlyCounted hides = ⊥
IsOnlyCounted empty_stone = Unit {0}
IsOnlyCounted unknown_stone = Unit {0}

-- Each entry is only counted by a head of this content.
abbrev pub AreOnlyCounted : Content → List Entry → Type 0
AreOnlyCounted c es = All (λ e. IsOnlyCounted (told c.table c.histories e)) es
