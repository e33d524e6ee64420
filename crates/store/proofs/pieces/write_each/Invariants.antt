use Rattle.std.proofs.Common.{[], ◌≡◌, ◌++◌, ◌-◌}
use Rattle.store.specs.Moved.{Moves}
use Rattle.store.proofs.pieces.write_each.Given as goal

-- what was written, what is kept and what is to come are all bytes
abbrev pub invariant-loop : goal.invariant-loop
invariant-loop g l =
    Moves (g.W.Write.contents l.initial.writer) (g.P.Pieces.text l.initial.pieces) (g.W.Write.contents l.writer) (l.bytes.items ++ g.P.Pieces.text l.pieces) × (g.P.Pieces.count l.pieces ≡ l.end - l.counter) × (g.P.Pieces.count l.pieces ≡ 0 → g.P.Pieces.text l.pieces ≡ [])
