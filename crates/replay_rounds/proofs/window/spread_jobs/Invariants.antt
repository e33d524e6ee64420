use Rattle.std.proofs.Common.{◌≡◌, ◌+◌, vec_len}
use Rattle.replay_rounds.specs.Shares.{IsShared}
use Rattle.replay_rounds.proofs.window.spread_jobs.Given as goal

abbrev pub invariant-loop-worker : goal.invariant-loop-worker
invariant-loop-worker l = (vec_len l.sharing.jobs + 1 ≡ l._worker) × IsShared l.fn.window.resolver.now l.fn.window.changes.now l.fn.window.seats.now.workers l.fn.window.pages.items l.sharing
