-- Series in the order of first sight, and the slots of references.
use Rattle.std.specs.Prelude.{◌≡◌, ℕ, ◌+◌, ◌<◌, ◌⊎◌, Bool, false, List, [], ◌∷◌, ◌++◌, length, nat_eq, nat_lt, if◌then◌else◌, Option, Some, None, slice_index_or}
use Rattle.std.specs.List.{list_any}
use Rattle.std.specs.Map.{lookup}
pub use Rattle.wal_record.specs.Labels.{Labels}
use Rattle.wal_record.specs.Labels.{same_labels}
pub use Rattle.series_references.specs.Slots.{IsLeast, IsWith, with_greatest}
use Rattle.head_series.specs.Texts.{Text, with_texts, texts_of}

-- How much more can be added without allocating: rows of series, their lower bounds, their places by hash, and texts; small references,
-- those below `places`; and this many others. `low_end` says which are small.
pub record Room : Type 0 where
  pub rows : ℕ
  pub lower_bounds : ℕ
  pub last_by_hash : ℕ
  pub texts : ℕ
  pub places : ℕ
  pub high : ℕ

-- The content of a table: the series by slot; the references that have a slot, each with it, in no particular order (`slot_at`); the
-- greatest reference that was ever bound; the distinct texts of the series; and the limit of series and of texts. And how much more can be
-- added without allocating, which no call shows.
pub record Table : Type 0 where
  pub series : List Labels
  pub slots : List (ℕ × ℕ)
  pub greatest : Option ℕ
  pub texts : List Text
  pub most : ℕ
  pub room : Room

-- the slot of a reference
abbrev pub slot_at : Table → ℕ → Option ℕ
slot_at t r = lookup (nat_eq r) t.slots

-- the label set of a slot
abbrev pub labels_at : Table → ℕ → Labels
labels_at t s = slice_index_or t.series s []

-- the label set is among the series
abbrev pub has_series : List Labels → Labels → Bool
has_series ss ls = list_any (same_labels ls) ss

-- the series once the label set was seen
abbrev pub with_series : List Labels → Labels → List Labels
with_series ss ls = if has_series ss ls then ss else ss ++ ls ∷ []

-- the texts once the label set was seen
abbrev pub texts_with : Table → Labels → List Text
texts_with t ls = if has_series t.series ls then t.texts else with_texts t.texts (texts_of ls)

-- the label set is new, and one more series, or its texts, would pass the limit
abbrev pub IsFull : Table → Labels → Type 0
IsFull t ls = (has_series t.series ls ≡ false) × ((length t.series ≡ t.most) ⊎ (t.most < length (with_texts t.texts (texts_of ls))))

-- one more than the greatest; 1 if there is none, and none if that was 2 ^ 64 - 1
abbrev pub after : Option ℕ → Option ℕ
after None = Some 1
after (Some g) = if nat_lt g 18446744073709551615 then Some (g + 1) else None

-- two tables that no call tells apart
pub record AreAlike (t u : Table) : Type 0 where
  pub series : u.series ≡ t.series
  pub slots : (r : ℕ) → slot_at u r ≡ slot_at t r
  pub greatest : u.greatest ≡ t.greatest
  pub texts : u.texts ≡ t.texts
  pub most : u.most ≡ t.most
