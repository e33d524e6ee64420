-- How a series is kept, as numbers of texts: words of proofs, which no public contract cites.
use Rattle.std.specs.Prelude.{◌≡◌, ℕ, ◌+◌, ◌<◌, ◌≤◌, Bool, false, List, [], ◌∷◌, map, length, Option, Some, None, slice_get, slice_index, slice_index_or}
use Rattle.std.specs.List.{list_any}
use Rattle.wal_record.specs.declared.labels.Label.{Label}
pub use Rattle.wal_record.specs.Labels.{label}
pub use Rattle.wal_record.specs.Hashes.{labels_hash}
use Rattle.head_series.specs.Texts.{Text, with_texts, texts_of}

-- the label of two numbers
abbrev pub named : List Text → ℕ × ℕ → Label
named ts n = label (slice_index_or ts n.0 []) (slice_index_or ts n.1 [])

abbrev pub labels_in : List Text → List (ℕ × ℕ) → List Label
labels_in ts ns = map (named ts) ns

-- each number has a text
abbrev pub AreWithin : ℕ → List (ℕ × ℕ) → Type 0
AreWithin many [] = Unit {0}
AreWithin many (n ∷ ns) = (n.0 < many) × (n.1 < many) × AreWithin many ns

abbrev pub AreAllWithin : ℕ → List (List (ℕ × ℕ)) → Type 0
AreAllWithin many [] = Unit {0}
AreAllWithin many (ns ∷ rest) = AreWithin many ns × AreAllWithin many rest

-- the texts once those of the labels ls were seen, and the numbers of ls in them
pub record IsRead (old : List Text) (ls : List Label) (ts : List Text) (ns : List (ℕ × ℕ)) : Type 0 where
  pub texts : ts ≡ with_texts old (texts_of ls)
  pub numbers : labels_in ts ns ≡ ls
  pub within : AreWithin (length ts) ns

-- no two are equal
abbrev pub AreDistinct : {A : Type 0} → (A → A → Bool) → List A → Type 0
AreDistinct same [] = Unit {0}
AreDistinct same (x ∷ xs) = (list_any (same x) xs ≡ false) × AreDistinct same xs

-- n is the last place before b at which xs has h, plus 1, or 0 if there is none
pub record IsLast (xs : List ℕ) (b h n : ℕ) : Type 0 where
  pub within : n ≤ b
  pub has : (s : ℕ) → n ≡ s + 1 → slice_get xs s ≡ Some h
  pub none : (s : ℕ) → n ≤ s → s < b → slice_get xs s ≡ Some h → ⊥

-- Per series a hash, of each hash the last series with it, and before each series the last before it with its hash.
pub record IsChained (hashes : List ℕ) (last : ℕ → ℕ) (befores : List ℕ) : Type 0 where
  pub ends : (h : ℕ) → IsLast hashes (length hashes) h (last h)
  pub before : (s h : ℕ) → slice_get hashes s ≡ Some h → IsLast hashes s h (slice_index befores s)

abbrev pub or_zero : Option ℕ → ℕ
or_zero None = 0
or_zero (Some n) = n
