-- Words of private functions and of proofs: a row in its parts, of which the labels are parsed once.
use Rattle.std.specs.Prelude.{◌≡◌, ℕ, Bool, List, [], ◌∷◌, ◌++◌, Some, Vec, map, slice_get}
use Rattle.std.specs.Borrow.{Bor}
use Rattle.std.specs.List.{AllZip, flat_map}
use Rattle.wal_record.specs.declared.labels.Label.{Label}
use Rattle.wal_record.specs.Labels.{Labels, label}
use Rattle.head_live.specs.declared.rows.RawRow.{RawRow}
use Rattle.head_live.specs.Rows.{row_of}
use Rattle.write_commands.specs.declared.rows.RowParts.{RowParts}
use Rattle.write_commands.specs.RowTexts.{IsNumberText, IsValueText, label_word}

-- the labels of the pairs that were parsed
abbrev pub labels_of : {A : Type 0} → List (Vec ℕ A × Vec ℕ A) → List Label
labels_of pairs = map (λ p. label p.0.items p.1.items) pairs

-- what follows a value: the text of the labels, if there are any, behind a space
abbrev pub labels_behind : List ℕ → List ℕ
labels_behind [] = []
labels_behind (b ∷ text) = 32 ∷ b ∷ text

-- the text of labels, with a space between them
abbrev pub SpellsLabels : List ℕ → List Label → Type 0
SpellsLabels text labels = labels_behind text ≡ flat_map label_word labels

-- the time, the value and the text of the labels of a line
pub record ArePartsOf (floats : Bool) (line : List ℕ) (parts : RowParts) : Type 0 where
  pub time_text : List ℕ
  pub value_text : List ℕ
  pub whole : line ≡ time_text ++ (32 ∷ value_text ++ labels_behind parts.labels.now)
  pub time_spelled : IsNumberText time_text parts.time
  pub value_spelled : IsValueText floats value_text parts.value

-- the label sets of rows
abbrev pub sets_of : List RawRow → List Labels
sets_of raws = map (λ raw. (row_of raw).labels) raws

-- each text is that of the labels of its row
abbrev pub AreSpelled : List (Bor (List ℕ)) → List RawRow → Type 0
AreSpelled texts first = AllZip (λ (t : Bor (List ℕ)) raw. SpellsLabels t.now (row_of raw).labels) texts first

-- the text is that of the labels of the row in this place
pub record IsPlaced (text : List ℕ) (first : List RawRow) (place : ℕ) : Type 0 where
  pub raw : RawRow
  pub here : slice_get first place ≡ Some raw
  pub spelled : SpellsLabels text (row_of raw).labels
