use Rattle.std.proofs.Common.{◌≡◌}
use Rattle.replay_rounds.proofs.rounds.Rounds.spares.Given as goal

abbrev pub invariant-loop-worker : goal.invariant-loop-worker
invariant-loop-worker g l = l.self ≡ l.fn.self
