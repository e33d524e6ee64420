-- Lines of numbers.
use Rattle.std.specs.Prelude.{ℕ, List, [], ◌∷◌, ◌++◌}
use Rattle.std.specs.Fmt.{decimal}
use Rattle.std.specs.List.{flat_map}

-- a number after its name
abbrev pub number_line : List ℕ × ℕ → List ℕ
number_line number = number.0 ++ (32 ∷ (decimal number.1 ++ 10 ∷ []))

-- numbers, one a line
abbrev pub numbers_text : List (List ℕ × ℕ) → List ℕ
numbers_text numbers = flat_map number_line numbers
