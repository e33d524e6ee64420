use Rattle.std.proofs.Common.{◌≡◌, ◌≤◌, take, length}
use Rattle.head_series.specs.Rows.{IsRead}
use Rattle.head_series.proofs.interner.Interner.numbers_in.Given as goal

abbrev pub invariant-loop-i : goal.invariant-loop-i
invariant-loop-i l = IsRead l.fn.self.texts (take l.i l.fn.labels) l.self.texts l.numbers.items × (l.self.most ≡ l.fn.self.most) × (l.i ≤ length l.fn.labels)
