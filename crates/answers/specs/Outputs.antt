-- Text that is printed while it is made.
use Rattle.std.specs.Prelude.{◌≡◌, ℕ, List, ◌++◌}

module _ {O : Type 0} (printed : O → List ℕ → O → Type 0) where
  -- from the first state on all of this text was made: what was printed, and then what waits
  abbrev pub IsMade : O → O → List ℕ → List ℕ → Type 0
  IsMade first out waiting all = (before : List ℕ) × printed first before out × (all ≡ before ++ waiting)

  -- A text with this property was made: some of it was printed meanwhile, and the rest waits.
  abbrev pub MakesText : O → O → List ℕ → (List ℕ → Type 0) → Type 0
  MakesText old new waiting IsText = (text : List ℕ) × IsText text × ((first : O) (before : List ℕ) → printed first before old → IsMade first new waiting (before ++ text))
