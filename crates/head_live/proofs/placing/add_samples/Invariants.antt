use Rattle.std.proofs.Common.{◌≡◌, ◌++◌, map, take}
use Rattle.head_live.specs.Placed.{placed}
use Rattle.head_live.proofs.placing.add_samples.Given as goal

abbrev pub invariant-loop-sample : goal.invariant-loop-sample
invariant-loop-sample l = l.all.items ≡ l.initial.all.items ++ map (placed l.slot) (take l.sample-index l.sample-items)
