use Rattle.std.proofs.Common.{arith}
use Rattle.std.proofs.lemmas.Int.{ints}
use Rattle.hour_rows.proofs.Clips.{runs_in-kept, runs_in-left_out}
use Rattle.hour_rows.proofs.rows.clip_runs.Goals as goal
use Rattle.hour_rows.proofs.rows.clip_runs.Goals.{then-part+in_ok-push, else-part}

pub loop-run-preserved : goal.loop-run-preserved
loop-run-preserved c = elim c.if-part.branch [
  | then-part+in_ok-push w ↦ rw w.kept-is (runs_in-kept c.args.hour c.args.runs.now c.loop-run.kept.items w.push.new.self.items c.loop-run.run-index _ c.clipped-part.result c.loop-run-test.true c.clipped-part.ensures (omega (arith, ints)) c.loop-run.invariant w.in_ok-push.ensures.items)
  | else-part w ↦ rw w.kept-is (runs_in-left_out c.args.hour c.args.runs.now c.loop-run.kept.items c.loop-run.run-index _ c.clipped-part.result c.loop-run-test.true c.clipped-part.ensures (omega (arith, ints)) c.loop-run.invariant)
]
