-- The lines of records, printed some at a time.
use Rattle.std.specs.Prelude.{ℕ, List, ◌++◌, string_bytes}
use Rattle.std.specs.List.{flat_map}
use Rattle.wal_log.specs.declared.reading.Placed.{Placed}
use Rattle.answers.specs.Outputs.{IsMade}
use Rattle.log_commands.specs.Printed.{record_line}
use Rattle.log_commands.specs.declared.record_lines.RecordLines.{RecordLines}

-- from the first state to the last the lines of these records were made
abbrev pub HasMade : {O : Type 0} → (O → List ℕ → O → Type 0) → RecordLines O → List Placed → RecordLines O → Type 0
HasMade {O = O} printed first placed last = (begun : O) (all : List ℕ) → IsMade printed begun first.out (string_bytes first.text) all → IsMade printed begun last.out (string_bytes last.text) (all ++ flat_map record_line placed)
