use Rattle.std.proofs.Common.{◌+◌, ◌≤◌, length}
use Rattle.std.specs.Prelude.{map, reverse}
use Rattle.std.specs.Vec.{vec_capacity}
use Rattle.head_series.specs.Rows.{label}
use Rattle.head_series.proofs.PutLemmas.{IsPut}
use Rattle.head_series.proofs.interner.Interner.put_all.Given as goal

abbrev pub invariant-loop-name : goal.invariant-loop-name
invariant-loop-name l = IsPut l.fn.self l.fn.ready l.self l.numbers.items (reverse (map (λ p. label p.0.items p.1.items) l.texts.items)) × (length l.numbers.items + length l.texts.items ≤ vec_capacity l.numbers)

abbrev pub decreases-loop-name : goal.decreases-loop-name
decreases-loop-name l = length l.texts.items
