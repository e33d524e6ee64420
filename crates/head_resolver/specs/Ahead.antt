-- What the records of a window of a log say where all bindings of the window were made ahead, so that each record can be read apart from the
-- others.
use Rattle.std.specs.Prelude.{◌≡◌, ℕ, ◌+◌, ◌≤◌, ℤ, List, [], ◌∷◌, ◌++◌, Option, length}
use Rattle.std.specs.List.{flat_map, fold}
use Rattle.hw_bytes.specs.Lists.{distinct}
use Rattle.wal_record.specs.declared.record.WalRecord.{WalRecord}
use Rattle.wal_record.specs.Labels.{same_text}
use Rattle.wal_record.specs.Entries.{Entry, series, sample, stone, entries_in, entries_of}
use Rattle.wal_record.specs.Validity.{valid_in}
use Rattle.head_column.specs.declared.items.Item.{Item}
use Rattle.head_series.specs.Texts.{texts_of}
use Rattle.head_series.specs.Bindings.{IsTableOf, series_of}
use Rattle.head_resolver.specs.declared.counts.Counts.{Counts}
use Rattle.head_resolver.specs.Owners.{bindings}
use Rattle.head_resolver.specs.Taken.{Taken, taken_with}
use Rattle.head_resolver.specs.Counts.{bound, sample_item, stone_item}
use Rattle.head_resolver.specs.Limits.{series_limit}
use Rattle.head_resolver.specs.Steps.{no_counts, with_expired, with_fate, with_record}
use Rattle.head_resolver.specs.Resolved.{ResolverValue, known_counts_of, with_slot}
use Rattle.head_resolver.specs.Resolving.{with_item}
use Rattle.head_resolver.specs.Changes.{Change, changes_of, placed_series}

-- the item of an entry with its slot, by these slots of references
abbrev pub items_with : (ℕ → Option ℕ) → Entry → List (ℕ × Item)
items_with slots (series e) = []
items_with slots (sample s) = with_slot (slots s.reference) (sample_item s)
items_with slots (stone d) = with_slot (slots d.reference) (stone_item d)

-- the counts with an entry, by these slots
abbrev pub counts_with : (ℕ → Option ℕ) → Counts → Entry → Counts
counts_with slots c (series e) = with_fate bound c
counts_with slots c (sample s) = with_item (slots s.reference) (sample_item s) c
counts_with slots c (stone d) = with_item (slots d.reference) (stone_item d) c

-- the counts with one more record, by these slots: with the record by its type, with its expired entries, and with each entry that m leaves
abbrev pub record_with : ℤ → (ℕ → Option ℕ) → WalRecord → Counts → Counts
record_with m slots r c = fold (counts_with slots) (with_expired m r (with_record r c)) (entries_in (valid_in m r))

-- the items of records at the places n, n + 1 and so on, by the slots that references have at each place
abbrev pub items_from : ℤ → (ℕ → ℕ → Option ℕ) → ℕ → List WalRecord → List (ℕ × Item)
items_from m slots n [] = []
items_from m slots n (r ∷ rs) = flat_map (items_with (slots n)) (entries_in (valid_in m r)) ++ items_from m slots (n + 1) rs

-- the counts with these records
abbrev pub counts_from : ℤ → (ℕ → ℕ → Option ℕ) → ℕ → List WalRecord → Counts → Counts
counts_from m slots n [] c = c
counts_from m slots n (r ∷ rs) c = counts_from m slots (n + 1) rs (record_with m (slots n) r c)

-- What records at the places n, n + 1 and so on say by the slots that references have at each place, with the least valid time m: their
-- items with the slots of their owners, in order, and all that they add to the counts, their series entries among it.
pub record AreSpreadAt (m : ℤ) (slots : ℕ → ℕ → Option ℕ) (n : ℕ) (rs : List WalRecord) (items : List (ℕ × Item)) (c : Counts) : Type 0 where
  pub items_are : items ≡ items_from m slots n rs
  pub counts_are : c ≡ counts_from m slots n rs no_counts

-- A window of records comes after what was taken of a log: first those in `front`, which were taken too, and then those in `back`, of
-- which only the bindings were made. The places of the window begin at 0; the changes are those of all its series entries, in order.
pub record IsAhead (t : Taken) (front back : List WalRecord) (cs : List Change) (v : ResolverValue) : Type 0 where
  pub shown : IsTableOf (bindings (entries_of t.kept ++ entries_of (front ++ back))) v.table
  pub changes_are : cs ≡ changes_of (entries_of t.kept) (placed_series 0 (front ++ back))
  pub counted : v.counts ≡ known_counts_of (taken_with v.min_valid t front)

-- Whatever the slots of references, these entries come to the slot of this reference with this item, and count for nothing else.
pub record AreItem (es : List Entry) (reference : ℕ) (item : Item) : Type 0 where
  pub items : (slots : ℕ → Option ℕ) → flat_map (items_with slots) es ≡ with_slot (slots reference) item
  pub counts : (slots : ℕ → Option ℕ) (c : Counts) → fold (counts_with slots) c es ≡ with_item (slots reference) item c

-- ---- words of private functions

-- the series of these entries, and the distinct label texts, are within the limits of a head
pub record AreFew (es : List Entry) : Type 0 where
  pub series : length (series_of (bindings es)) ≤ series_limit
  pub texts : length (distinct same_text (flat_map texts_of (series_of (bindings es)))) ≤ series_limit
