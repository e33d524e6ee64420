use Rattle.std.proofs.Common.{◌≡◌, ℕ, List, length, map}
use Rattle.serde_json.specs.Data.{string}
use Rattle.serde_json.specs.View.{view}
use Rattle.inspect_command.proofs.json.notes_value.Given as goal

-- the notes so far
abbrev pub invariant-loop-remark : goal.invariant-loop-remark
invariant-loop-remark l = (notes : List (List ℕ)) × (length notes ≡ l.remark-index) × (map view l.list.items ≡ map string notes)
