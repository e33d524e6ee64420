use Rattle.std.proofs.Common.{◌≡◌, ◌-◌, ◌<◌, drop}
use Rattle.index_text.specs.Tests.{chain_test, comes_before}
use Rattle.index_text.proofs.rows.ascend.Given as goal

abbrev pub invariant-loop-i : goal.invariant-loop-i
invariant-loop-i l = record { some : 0 < l.i; so_far : chain_test comes_before l.rows ≡ chain_test comes_before (drop (l.i - 1) l.rows) }
