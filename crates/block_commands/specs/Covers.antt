-- Times that have all of an hour.
use Rattle.std.specs.Prelude.{ℤ, IsTrue}
use Rattle.head_column.specs.declared.items.Run.{Run}
use Rattle.head_column.specs.Hours.{HasTime, IsEdge, is_in_hour}
use Rattle.head_column.specs.Runs.{spans}

-- If the hour has a time that is an `i64`, and is no edge, each of its times is one of these.
abbrev pub Covers : Run → ℤ → Type 0
Covers times hour = HasTime hour → (IsEdge hour → ⊥) → (t : ℤ) → IsTrue (is_in_hour hour t) → IsTrue (spans times t)
