use Rattle.std.proofs.Common.{[], ◌≡◌, ◌++◌, ◌-◌}
use Rattle.store.proofs.pieces.gather.Given as goal

-- what was made and what is to come are all bytes
abbrev pub invariant-loop : goal.invariant-loop
invariant-loop g l = (l.bytes.items ++ g.P.Pieces.text l.pieces ≡ g.P.Pieces.text l.initial.pieces) × (g.P.Pieces.count l.pieces ≡ l.end - l.counter) × (g.P.Pieces.count l.pieces ≡ 0 → g.P.Pieces.text l.pieces ≡ [])
