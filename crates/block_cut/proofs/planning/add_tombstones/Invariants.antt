use Rattle.std.proofs.Common.{◌≡◌, ◌++◌, map, take}
use Rattle.head_column.specs.declared.items.Run.{Run}
use Rattle.block_cut.proofs.planning.add_tombstones.Given as goal

abbrev pub invariant-loop-run : goal.invariant-loop-run
invariant-loop-run l = l.tombstones.items ≡ l.initial.tombstones.items ++ map (λ (r : Run). record { series = l.series; run = r }) (take l.run-index l.runs)
