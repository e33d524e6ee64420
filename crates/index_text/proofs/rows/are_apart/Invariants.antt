use Rattle.std.proofs.Common.{◌≡◌, ◌-◌, ◌<◌, drop}
use Rattle.index_text.specs.Tests.{chain_test, ends_before}
use Rattle.index_text.proofs.rows.are_apart.Given as goal

abbrev pub invariant-loop-i : goal.invariant-loop-i
invariant-loop-i l = record { some : 0 < l.i; so_far : chain_test ends_before l.chunks ≡ chain_test ends_before (drop (l.i - 1) l.chunks) }
