-- Postings from the sorted labels of rows.
use Rattle.std.specs.Prelude.{ℕ, List, map, get_or}
use Rattle.wal_record.specs.declared.labels.Label.{Label}
use Rattle.wal_record.specs.Labels.{compare_label}
use Rattle.index_text.specs.Groups.{keys, members}
use Rattle.index_text.specs.Index.{postings_body}
use Rattle.index_text.specs.Layout.{Text, framed}

-- the distinct labels, ascending
abbrev pub labels_in : List (Label × ℕ) → List Label
labels_in ls = keys (λ (l : Label × ℕ). l.0) compare_label ls

-- the ids of the rows of these labels
abbrev pub ids_at : List ℕ → List (Label × ℕ) → List ℕ
ids_at ids ls = map (λ (l : Label × ℕ). get_or ids l.1 0) ls

-- the ids of the rows that have the label
abbrev pub ids_of : List ℕ → List (Label × ℕ) → Label → List ℕ
ids_of ids ls p = ids_at ids (members (λ (l : Label × ℕ). l.0) compare_label ls p)

-- the postings of each label
abbrev pub lists_of : List ℕ → List (Label × ℕ) → List Text
lists_of ids ls = map (λ p. framed (postings_body (ids_of ids ls p))) (labels_in ls)
