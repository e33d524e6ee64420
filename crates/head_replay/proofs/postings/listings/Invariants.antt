use Rattle.std.proofs.Common.{◌≡◌, vec_len}
use Rattle.head_replay.specs.Partial.{AreNumbered}
use Rattle.head_replay.proofs.postings.listings.Given as goal

abbrev pub invariant-loop-worker : goal.invariant-loop-worker
invariant-loop-worker l = AreNumbered (λ worker job. (job.worker ≡ worker) × (job.workers.number ≡ l.workers.number) × (job.table.now ≡ l.table)) 0 l.jobs.items × (vec_len l.jobs ≡ l.worker)
