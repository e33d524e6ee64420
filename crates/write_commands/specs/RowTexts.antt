-- The rows that a text spells, one a line: `TIME VALUE NAME=VALUE ..`.
use Rattle.std.specs.Prelude.{◌≡◌, ◌⊎◌, ℕ, ℤ, pos, neg_ℤ, Bool, false, true, List, [], ◌∷◌, ◌++◌}
use Rattle.std.specs.List.{AllZip, flat_map}
use Rattle.std.specs.Str.Parse.{IsNumeral, digits_value}
use Rattle.float_text.specs.FloatText.{Reads}
use Rattle.wal_record.specs.declared.labels.Label.{Label}
use Rattle.head_live.specs.Rows.{Row}
use Rattle.store.specs.Found.{Bytes, Found}
use Rattle.answers.specs.Spellings.{pair_text}

-- a number: an optional minus and decimal digits
pub record IsNumberText (word : List ℕ) (number : ℤ) : Type 0 where
  pub digits : List ℕ
  pub numeral : IsNumeral 10 digits
  pub signed : ((word ≡ digits) × (number ≡ pos (digits_value 10 digits))) ⊎ ((word ≡ 45 ∷ digits) × (number ≡ neg_ℤ (pos (digits_value 10 digits))))

-- a value: a floating point number, which stands for its bits, or else a number
abbrev pub IsValueText : Bool → List ℕ → ℤ → Type 0
IsValueText true word value = Reads word value
IsValueText false word value = IsNumberText word value

-- a space and a label
abbrev pub label_word : Label → List ℕ
label_word l = 32 ∷ pair_text l.name l.value

-- A row: its time, its value, a floating point number or not, and its labels, each after one space.
pub record IsRowLine (floats : Bool) (line : List ℕ) (row : Row) : Type 0 where
  pub time_text : List ℕ
  pub value_text : List ℕ
  pub whole : line ≡ time_text ++ (32 ∷ value_text ++ flat_map label_word row.labels)
  pub time_spelled : IsNumberText time_text row.time
  pub value_spelled : IsValueText floats value_text row.value

-- lines, each ended by a newline
abbrev pub lines_text : List (List ℕ) → List ℕ
lines_text lines = flat_map (λ (line : List ℕ). line ++ 10 ∷ []) lines

-- Each line of the text is a row, in order. The last newline may be missing.
pub record AreRowsOf (floats : Bool) (text : List ℕ) (rows : List Row) : Type 0 where
  pub lines : List (List ℕ)
  pub whole : (text ≡ lines_text lines) ⊎ (text ++ 10 ∷ [] ≡ lines_text lines)
  pub each : AllZip (IsRowLine floats) lines rows

-- the rows of the file at this path
abbrev pub AreRowsAt : Bool → (List ℕ → Found → Type 0) → List ℕ → List Row → Type 0
AreRowsAt floats found path rows = (text : List ℕ) × found path (Bytes text) × AreRowsOf floats text rows
