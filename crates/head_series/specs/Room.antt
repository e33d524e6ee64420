-- The room of a table for bindings.
use Rattle.std.specs.Prelude.{◌≡◌, ℕ, ◌+◌, ◌<◌, ◌≤◌, List, [], ◌∷◌, ◌++◌, length, if◌then◌else◌}
use Rattle.head_series.specs.Texts.{Text, with_texts, texts_of}
use Rattle.head_series.specs.Table.{Labels, Table, has_series, with_series}
use Rattle.series_references.specs.ReferenceSlots.{low_end}
pub use Rattle.series_references.specs.ReferenceSlots.{high_one}
use Rattle.head_series.specs.Bindings.{Binding}

-- the texts once the label set was seen by a table of these series
abbrev pub texts_seen : List Labels → List Text → Labels → List Text
texts_seen ss ts ls = if has_series ss ls then ts else with_texts ts (texts_of ls)

-- if these are bound in turn, neither the series nor their texts pass the limit
abbrev pub Fits : ℕ → List Labels → List Text → List Binding → Type 0
Fits most ss ts [] = Unit {0}
Fits most ss ts (b ∷ bs) = (length (with_series ss b.labels) ≤ most) × (length (texts_seen ss ts b.labels) ≤ most) × Fits most (with_series ss b.labels) (texts_seen ss ts b.labels) bs

-- the number of texts of the label sets, each counted as often as it occurs
abbrev pub text_count : List Binding → ℕ
text_count [] = 0
text_count (b ∷ bs) = length (texts_of b.labels) + text_count bs

-- the number of references from `low_end` on
abbrev pub high_count : List Binding → ℕ
high_count [] = 0
high_count (b ∷ bs) = high_one b.reference + high_count bs

-- each reference below `low_end` has its place among this many
abbrev pub HavePlaces : ℕ → List Binding → Type 0
HavePlaces many [] = Unit {0}
HavePlaces many (b ∷ bs) = (b.reference < low_end → b.reference < many) × HavePlaces many bs

-- These can be bound in turn without allocating.
pub record HasRoom (t : Table) (bs : List Binding) : Type 0 where
  pub fits : Fits t.most t.series t.texts bs
  pub rows : length bs ≤ t.room.rows
  pub lower_bounds : length bs ≤ t.room.lower_bounds
  pub last_by_hash : length bs ≤ t.room.last_by_hash
  pub texts : text_count bs ≤ t.room.texts
  pub places : HavePlaces t.room.places bs
  pub high : high_count bs ≤ t.room.high

-- The most room that a binding takes: t is the table before it, u the table after it. A word of proofs, which no public contract cites.
pub record Uses (t u : Table) (b : Binding) : Type 0 where
  pub rows : t.room.rows ≤ u.room.rows + 1
  pub lower_bounds : t.room.lower_bounds ≤ u.room.lower_bounds + 1
  pub last_by_hash : t.room.last_by_hash ≤ u.room.last_by_hash + 1
  pub texts : t.room.texts ≤ u.room.texts + length (texts_of b.labels)
  pub places : u.room.places ≡ t.room.places
  pub high : t.room.high ≤ u.room.high + high_one b.reference

-- the series once these were bound in turn
abbrev pub series_after : List Labels → List Binding → List Labels
series_after ss [] = ss
series_after ss (b ∷ bs) = series_after (with_series ss b.labels) bs

-- the texts once these were bound in turn
abbrev pub texts_after : List Labels → List Text → List Binding → List Text
texts_after ss ts [] = ts
texts_after ss ts (b ∷ bs) = texts_after (with_series ss b.labels) (texts_seen ss ts b.labels) bs

-- What a plan counts: the series and the texts that will be new; and bounds on how many the bindings, their texts, and their references
-- from `low_end` on are.
pub record Planned : Type 0 where
  pub series : List Labels
  pub texts : List Text
  pub bindings : ℕ
  pub texts_most : ℕ
  pub high : ℕ

-- the plan has what these bindings will make new
pub record IsPlanOf (t : Table) (bs : List Binding) (p : Planned) : Type 0 where
  pub series : t.series ++ p.series ≡ series_after t.series bs
  pub texts : t.texts ++ p.texts ≡ texts_after t.series t.texts bs
  pub few : length (t.series ++ p.series) ≤ t.most
  pub few_texts : length (t.texts ++ p.texts) ≤ t.most

-- The plan is of these bindings, and they can be made in turn without allocating.
pub record IsReserved (t : Table) (bs : List Binding) (p : Planned) : Type 0 where
  pub room : HasRoom t bs
  pub plan : IsPlanOf t bs p
  pub bindings : length bs ≤ p.bindings
  pub texts_most : text_count bs ≤ p.texts_most
  pub high : high_count bs ≤ p.high
