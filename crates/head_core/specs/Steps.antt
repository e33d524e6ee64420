-- What one entry does to the content of a head. Mostly words of proofs and of private functions; docs/DEFINITIONS.md lists those that
-- public contracts cite.
use Rattle.std.specs.Prelude.{◌≡◌, ℕ, ℤ, true, false, List, [], ◌∷◌, ◌++◌, ◌⊎◌, Option, None, Some, length, slice_get, slice_set, if◌then◌else◌}
use Rattle.std.specs.Option.{option_and_then}
use Rattle.wal_record.specs.Entries.{Entry, series, sample, stone}
use Rattle.head_column.specs.declared.items.Item.{Item}
use Rattle.head_column.specs.declared.items.Item.TheVariants as item
use Rattle.head_column.specs.Times.{later}
use Rattle.head_column.specs.Items.{outcome_of}
use Rattle.head_column.specs.Histories.{History, IsHistoryOf, no_history, history_after, history_outcome}
use Rattle.head_series.specs.Table.{Labels, Table, has_series, slot_at}
use Rattle.head_postings.specs.Postings.{Lists, IsPostingsOf}
use Rattle.head_resolver.specs.Steps.{with_fate, count_of_fate, IsOverTable, IsTableAfter}
use Rattle.head_resolver.specs.Counts.{Fate, bound, accepted, sample_item, stone_item, fate_of, unknown_fate}
use Rattle.head_resolver.specs.Limits.{count_limit, series_limit}
use Rattle.head_core.specs.Content.{Content}

-- What the proofs here use of head_column's law: a column's history is what its items make.
pub record ColumnLaw : Type 0 where
  pub start : IsHistoryOf [] no_history
  pub push : (items : List Item) (h : History) (i : Item) → IsHistoryOf items h → IsHistoryOf (items ++ i ∷ []) (history_after h i)
  pub outcome : (items : List Item) (h : History) (i : Item) → IsHistoryOf items h → history_outcome h i ≡ outcome_of items i

-- what becomes of an item, by the history of its series, if it has one
abbrev pub told_item : Option History → Item → Fate
told_item None i = unknown_fate i
told_item (Some h) i = fate_of (history_outcome h i)

-- the history in the slot of a reference, if it has a slot
abbrev pub found : Table → List History → ℕ → Option History
found t hs r = option_and_then (slice_get hs) (slot_at t r)

-- what becomes of an entry, by the table and the histories before it
abbrev pub told : Table → List History → Entry → Fate
told t hs (series e) = bound
told t hs (sample s) = told_item (found t hs s.reference) (sample_item s)
told t hs (stone d) = told_item (found t hs d.reference) (stone_item d)

-- the histories once the item was added to the one in the slot, if there is one
abbrev pub put_item : Option ℕ → Option History → Item → List History → List History
put_item None h i hs = hs
put_item (Some slot) None i hs = hs
put_item (Some slot) (Some h) i hs = slice_set hs slot (history_after h i)

-- the histories after an entry
abbrev pub histories_after : Table → List History → Entry → List History
histories_after t hs (series e) = if has_series t.series e.labels then hs else hs ++ no_history ∷ []
histories_after t hs (sample s) = put_item (slot_at t s.reference) (found t hs s.reference) (sample_item s) hs
histories_after t hs (stone d) = put_item (slot_at t d.reference) (found t hs d.reference) (stone_item d) hs

-- the later of two times, if there are any
abbrev pub later_option : Option ℤ → Option ℤ → Option ℤ
later_option m None = m
later_option m (Some t) = later m t

-- the greatest time after an item with this fate
abbrev pub max_item : Fate → Item → Option ℤ → Option ℤ
max_item accepted (item.Sample s) m = later m s.time
max_item fate i m = m

-- the greatest time after an entry
abbrev pub max_after : Table → List History → Option ℤ → Entry → Option ℤ
max_after t hs m (series e) = m
max_after t hs m (sample s) = max_item (told t hs (sample s)) (sample_item s) m
max_after t hs m (stone d) = max_item (told t hs (stone d)) (stone_item d) m

-- the count that an item would raise is the greatest
abbrev pub IsOverItem : Content → ℕ → Item → Type 0
IsOverItem c r i = count_of_fate (told_item (found c.table c.histories r) i) c.counts ≡ count_limit

-- What keeps an entry from being taken: the table has no room for it, or the count that it would raise is the greatest.
abbrev pub IsOver : Content → Entry → Type 0
IsOver c e = IsOverTable c.table e ⊎ (count_of_fate (told c.table c.histories e) c.counts ≡ count_limit)

-- the postings after a series entry: they have the new series, if there is one, after those before
pub record ArePosted (t : Table) (p : Lists) (labels : Labels) (q : Lists) : Type 0 where
  pub known : has_series t.series labels ≡ true → q ≡ p
  pub new : has_series t.series labels ≡ false → (sets : List (ℕ × Labels)) → IsPostingsOf sets p → IsPostingsOf (sets ++ (length t.series, labels) ∷ []) q

-- the postings after an entry
abbrev pub ArePostingsAfter : Table → Lists → Entry → Lists → Type 0
ArePostingsAfter t p (series e) q = ArePosted t p e.labels q
ArePostingsAfter t p (sample s) q = q ≡ p
ArePostingsAfter t p (stone d) q = q ≡ p

-- what is shown before and after an item that comes to a reference
pub record IsItemStep (c : Content) (r : ℕ) (i : Item) (d : Content) : Type 0 where
  pub table : d.table ≡ c.table
  pub histories : d.histories ≡ put_item (slot_at c.table r) (found c.table c.histories r) i c.histories
  pub postings : d.postings ≡ c.postings
  pub greatest : d.max_time ≡ max_item (told_item (found c.table c.histories r) i) i c.max_time
  pub counts : d.counts ≡ with_fate (told_item (found c.table c.histories r) i) c.counts
  pub min_valid : d.min_valid ≡ c.min_valid

-- what is shown before and after one entry
pub record IsStep (c : Content) (e : Entry) (d : Content) : Type 0 where
  pub table : IsTableAfter c.table e d.table
  pub histories : d.histories ≡ histories_after c.table c.histories e
  pub postings : ArePostingsAfter c.table c.postings e d.postings
  pub greatest : d.max_time ≡ max_after c.table c.histories c.max_time e
  pub counts : d.counts ≡ with_fate (told c.table c.histories e) c.counts
  pub min_valid : d.min_valid ≡ c.min_valid

-- what is shown before and after some entries, taken one after another
pub data Takes (c : Content) : List Entry → Content → Type 0 where
  none : Takes c [] c
  more : (es : List Entry) (m : Content) (e : Entry) (d : Content) → Takes c es m → IsStep m e d → Takes c (es ++ e ∷ []) d

-- Some of the entries were taken, and then one could not be.
pub record IsOverIn (c : Content) (es : List Entry) : Type 0 where
  pub front : List Entry
  pub next : Entry
  pub rest : List Entry
  pub middle : Content
  pub whole : es ≡ front ++ next ∷ rest
  pub taken : Takes c front middle
  pub over : IsOver middle next
  pub limit : middle.table.most ≡ series_limit
