-- The series of each item of a log, for a head whose columns are built elsewhere.
use Rattle.std.specs.Prelude.{◌≡◌, ◌≤◌, ℕ, ℤ, Bool, List, [], ◌∷◌, Option, None, Some, length}
use Rattle.std.specs.List.{flat_map}
use Rattle.std.specs.Option.{option_and_then}
use Rattle.hw_bytes.specs.Lists.{along, distinct}
use Rattle.wal_record.specs.Labels.{same_labels, same_text}
use Rattle.wal_record.specs.Entries.{Entry, series, sample, stone, entries_of}
use Rattle.head_column.specs.declared.items.Item.{Item}
use Rattle.head_series.specs.Texts.{place, texts_of}
use Rattle.head_series.specs.Table.{Table}
use Rattle.head_series.specs.Bindings.{IsTableOf, series_of}
use Rattle.head_resolver.specs.declared.counts.Counts.{Counts}
use Rattle.head_resolver.specs.Owners.{bindings, owner}
use Rattle.head_resolver.specs.Taken.{Taken}
use Rattle.head_resolver.specs.Counts.{sample_item, stone_item, counts_of}
use Rattle.head_resolver.specs.Limits.{AreCountsWithin, series_limit}

-- What a resolver shows: its series and references, its counts, its least valid time, and whether it has failed.
pub record ResolverValue : Type 0 where
  pub table : Table
  pub counts : Counts
  pub min_valid : ℤ
  pub failed : Bool

-- The slot of a reference's owner after these entries, if it has one: the owner's place among the series. Later entries move no series.
abbrev pub slot_behind : List Entry → ℕ → Option ℕ
slot_behind es r = option_and_then (λ l. place (same_labels l) (series_of (bindings es))) (owner es r)

abbrev pub with_slot : Option ℕ → Item → List (ℕ × Item)
with_slot None i = []
with_slot (Some s) i = (s, i) ∷ []

-- the item of an entry with the slot of its owner, if it has one at its place
abbrev pub items_at : List Entry → Entry → List (ℕ × Item)
items_at before (series e) = []
items_at before (sample s) = with_slot (slot_behind before s.reference) (sample_item s)
items_at before (stone d) = with_slot (slot_behind before d.reference) (stone_item d)

-- the known items with the slots of their owners, in order
abbrev pub resolved : List Entry → List (ℕ × Item)
resolved es = along items_at es

-- the counts of what was taken of a log, except for the outcomes, which only columns can tell
abbrev pub known_counts_of : Taken → Counts
known_counts_of t = record (counts_of t) { accepted = 0; stale = 0; hiding = 0; empty_stones = 0 }

-- These are the series, the references and the counts of what was taken of a log.
pub record IsResolved (t : Taken) (v : ResolverValue) : Type 0 where
  pub shown : IsTableOf (bindings (entries_of t.kept)) v.table
  pub counted : v.counts ≡ known_counts_of t

-- These are within the limits of a head: the series, the distinct label texts, and each count.
pub record IsResolvable (t : Taken) : Type 0 where
  pub series : length (series_of (bindings (entries_of t.kept))) ≤ series_limit
  pub texts : length (distinct same_text (flat_map texts_of (series_of (bindings (entries_of t.kept))))) ≤ series_limit
  pub counts : AreCountsWithin (known_counts_of t)

-- the first counts, with the four of the outcomes from the second
abbrev pub with_outcomes : Counts → Counts → Counts
with_outcomes c d = record c { accepted = d.accepted; stale = d.stale; hiding = d.hiding; empty_stones = d.empty_stones }
