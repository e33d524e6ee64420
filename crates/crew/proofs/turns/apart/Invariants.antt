use Rattle.std.proofs.Common.{◌≡◌, map}
use Rattle.crew.proofs.turns.apart.Given as goal

-- those of the jobs so far
abbrev pub invariant-loop-job : goal.invariant-loop-job
invariant-loop-job g l = (l.firsts.items ≡ map (λ job. job.first) l.yielded) × (l.seconds.items ≡ map (λ job. job.second) l.yielded)
