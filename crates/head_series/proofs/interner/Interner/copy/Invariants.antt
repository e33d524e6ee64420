use Rattle.std.proofs.Common.{◌≡◌, take}
use Rattle.head_series.proofs.interner.Interner.copy.Given as goal

abbrev pub invariant-loop-i : goal.invariant-loop-i
invariant-loop-i l = (l.copy.texts ≡ take l.i l.self.texts) × (l.copy.most ≡ l.self.most)
