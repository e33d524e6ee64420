use Rattle.std.proofs.Common.{◌≡◌, List, sym, subst, refl, arith}
use Rattle.head_replay.specs.Partial.{AreNumbered}
use Rattle.head_replay.specs.declared.postings.Listing.{Listing}
use Rattle.head_replay.proofs.Partial.{numbered_push}
use Rattle.head_replay.proofs.postings.listings.Goals as goal

pub loop-worker-preserved : goal.loop-worker-preserved
loop-worker-preserved c =
    let count = c.loop-worker.invariant.1 in (
      subst (λ (js : List Listing). AreNumbered (λ worker job. (job.worker ≡ worker) × (job.workers.number ≡ c.args.workers.number) × (job.table.now ≡ c.args.table.now)) 0 js) (sym c.in_ok-push.ensures.items)
          (numbered_push (λ worker job. (job.worker ≡ worker) × (job.workers.number ≡ c.args.workers.number) × (job.table.now ≡ c.args.table.now)) 0 c.loop-worker.jobs.items _ c.loop-worker.invariant.0 (omega arith, refl, refl)),
      omega (arith, c.in_ok-push.ensures.len),
    )
