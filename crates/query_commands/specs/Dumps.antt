-- The text of a dump: a line for each sample that is shown.
use Rattle.std.specs.Prelude.{◌≡◌, ℕ, ℤ, Bool, true, false, List, [], ◌∷◌, ◌++◌, map}
use Rattle.std.specs.List.{AllZip, flat_map}
use Rattle.std.specs.Fmt.{signed_decimal}
use Rattle.float_text.specs.FloatText.{Reads}
use Rattle.wal_record.specs.Labels.{Labels}
use Rattle.head_column.specs.Samples.{Sample}
use Rattle.head_core.specs.Content.{Content}
use Rattle.head_core.specs.Heads.{history_at}
use Rattle.head_series.specs.Table.{labels_at}
use Rattle.answers.specs.Outputs.{IsMade}
use Rattle.answers.specs.Spellings.{pair_text}
use Rattle.query_commands.specs.declared.selection.Selection.{Selection}
use Rattle.query_commands.specs.Selections.{shown_of}

-- labels, a space after each
abbrev pub labels_text : Labels → List ℕ
labels_text labels = flat_map (λ l. pair_text l.name l.value ++ 32 ∷ []) labels

-- the word is read as the floating point number with these bits, or is the whole number
abbrev pub SpellsValue : Bool → ℤ → List ℕ → Type 0
SpellsValue true value word = Reads word value
SpellsValue false value word = word ≡ signed_decimal value

-- the line of a sample, after the labels of its series: its time and its value
pub record IsLine (floats : Bool) (labels : List ℕ) (s : Sample) (line : List ℕ) : Type 0 where
  pub word : List ℕ
  pub value : SpellsValue floats s.value word
  pub is : line ≡ labels ++ (signed_decimal s.time ++ (32 ∷ (word ++ 10 ∷ [])))

-- the new text is the old one with the word of the value after it
pub record AppendsValue (floats : Bool) (value : ℤ) (old new : List ℕ) : Type 0 where
  pub word : List ℕ
  pub spelled : SpellsValue floats value word
  pub is : new ≡ old ++ word

-- the new text is the old one with the line of the sample after it
pub record AppendsLine (floats : Bool) (labels : List ℕ) (s : Sample) (old new : List ℕ) : Type 0 where
  pub line : List ℕ
  pub of : IsLine floats labels s line
  pub is : new ≡ old ++ line

-- the new text is the old one with a line after it for each of these samples, each with the text of its labels
pub record AppendsLines (floats : Bool) (samples : List (List ℕ × Sample)) (old new : List ℕ) : Type 0 where
  pub lines : List (List ℕ)
  pub each : AllZip (λ p line. IsLine floats p.0 p.1 line) samples lines
  pub is : new ≡ old ++ flat_map (λ line. line) lines

-- A line for each of these samples, each with the text of its labels, was made behind what was made before: printed meanwhile, or it waits.
pub record MakesLines {O : Type 0} (printed : O → List ℕ → O → Type 0) (floats : Bool) (samples : List (List ℕ × Sample)) (old : O) (waiting : List ℕ) (new : O) (rest : List ℕ) : Type 0 where
  pub lines : List (List ℕ)
  pub each : AllZip (λ p line. IsLine floats p.0 p.1 line) samples lines
  pub made : (first : O) (all : List ℕ) → IsMade printed first old waiting all → IsMade printed first new rest (all ++ flat_map (λ line. line) lines)

-- samples, each with the text of the labels of their series
abbrev pub labelled : List ℕ → List Sample → List (List ℕ × Sample)
labelled labels samples = map (λ s. (labels, s)) samples

-- the samples that a selection shows of these series, one series after another
abbrev pub dumped : Selection → Content → List ℕ → List (List ℕ × Sample)
dumped selection c slots = flat_map (λ slot. labelled (labels_text (labels_at c.table slot)) (shown_of selection (history_at c slot))) slots

-- the text has a line for each sample that the selection shows of these series, and nothing else
abbrev pub IsDump : Bool → Selection → Content → List ℕ → List ℕ → Type 0
IsDump floats selection c slots text = AppendsLines floats (dumped selection c slots) [] text
