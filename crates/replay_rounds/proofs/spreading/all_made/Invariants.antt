use Rattle.std.proofs.Common.{◌≡◌, ◌++◌, List, map}
use Rattle.std.specs.Vec.Iter.{into_iter_items}
use Rattle.replay_rounds.specs.declared.spreading.SpreadJob.{SpreadJob}
use Rattle.replay_rounds.proofs.spreading.all_made.Given as goal

abbrev pub invariant-loop-job : goal.invariant-loop-job
invariant-loop-job l = (done : List SpreadJob) × (done ++ into_iter_items l.job-iterator ≡ l.fn.jobs.items) × (l.all.items ≡ map (λ job. job.made) done)
