use Rattle.std.proofs.Common.{◌≡◌, take}
use Rattle.std.specs.Prelude.{map}
use Rattle.head_series.specs.declared.rows.Row.{Row}
use Rattle.head_series.proofs.rows.copied_rows.Given as goal

abbrev pub invariant-loop-row : goal.invariant-loop-row
invariant-loop-row l =
    (map (λ (r : Row). r.numbers.items) l.copy.items ≡ map (λ (r : Row). r.numbers.items) (take l.row-index l.rows)) × (map (λ (r : Row). r.previous) l.copy.items ≡ map (λ (r : Row). r.previous) (take l.row-index l.rows))
