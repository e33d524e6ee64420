-- Texts in the order of first sight.
use Rattle.std.specs.Prelude.{ℕ, Bool, List, [], ◌∷◌, ◌++◌, if◌then◌else◌}
use Rattle.std.specs.List.{list_any}
use Rattle.wal_record.specs.declared.labels.Label.{Label}
pub use Rattle.hw_bytes.specs.Lists.{place}
pub use Rattle.wal_record.specs.Labels.{Text}
use Rattle.wal_record.specs.Labels.{same_text}

-- the text is among the texts
abbrev pub has_text : List Text → Text → Bool
has_text ts t = list_any (same_text t) ts

-- the texts once t was seen
abbrev pub with_text : List Text → Text → List Text
with_text ts t = if has_text ts t then ts else ts ++ t ∷ []

-- the texts once each of us was seen
abbrev pub with_texts : List Text → List Text → List Text
with_texts ts [] = ts
with_texts ts (u ∷ us) = with_texts (with_text ts u) us

-- the texts of a label set: each name, and then its value
abbrev pub texts_of : List Label → List Text
texts_of [] = []
texts_of (l ∷ ls) = l.name ∷ l.value ∷ texts_of ls

-- texts, the limit of their number, and how many more can be added without allocating
pub record TextTable : Type 0 where
  pub texts : List Text
  pub most : ℕ
  pub room : ℕ
