use Rattle.std.proofs.Common.{◌≡◌, take}
use Rattle.hour_rows.specs.Clipping.{runs_in}
use Rattle.hour_rows.proofs.rows.clip_runs.Given as goal

abbrev pub invariant-loop-run : goal.invariant-loop-run
invariant-loop-run l = l.kept.items ≡ runs_in l.hour (take l.run-index l.runs)
