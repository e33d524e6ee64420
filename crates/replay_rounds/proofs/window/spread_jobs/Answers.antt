use Rattle.std.proofs.Common.{arith, ◌≡◌, ◌∙◌, ◌+◌, ◌++◌, [], List, length, refl, sym, ap, subst}
use Rattle.std.proofs.lemmas.List.{append-nil, drop_all}
use Rattle.std.specs.List.{AllByRecursion, flat_map}
use Rattle.wal_log.specs.declared.reading.Placed.{Placed}
use Rattle.replay_rounds.specs.Records.{records_of}
use Rattle.replay_rounds.specs.Shares.{ArePlaced, IsFreshJob}
use Rattle.replay_rounds.specs.declared.spreading.SpreadJob.{SpreadJob}
use Rattle.replay_rounds.proofs.window.spread_jobs.Goals as goal

pub loop-worker-init : goal.loop-worker-init
loop-worker-init c = (
  omega (arith, c.in_ok-jobs.ensures.len),
  subst (λ (js : List SpreadJob). AllByRecursion (IsFreshJob c.args.window.resolver.now c.args.window.changes.now c.args.window.seats.now.workers) js × ArePlaced 0 js × (0 ≡ length (records_of (flat_map (λ j. j.pages.items) js)))
      × (flat_map (λ j. j.pages.items) js ++ c.args.window.pages.items ≡ c.args.window.pages.items)) (sym c.in_ok-jobs.ensures.items) (tt, tt, refl, refl),
)

pub loop-worker-preserved : goal.loop-worker-preserved
loop-worker-preserved c = (omega (arith, c.in_ok-share.ensures.count, c.loop-worker.invariant.0), c.in_ok-share.ensures.shared c.args.window.pages.items c.loop-worker.invariant.1)

pub returns-clause-count : goal.returns-clause-count
returns-clause-count c = ap (λ v. v.len) c.into_jobs.ensures ∙ c.in_ok-share-2.ensures.count ∙ c.loop-worker.invariant.0 ∙ omega (arith, c.args.workers.some)

pub returns-clause-fresh : goal.returns-clause-fresh
returns-clause-fresh c =
    let shared = c.in_ok-share-2.ensures.shared c.args.window.pages.items c.loop-worker.invariant.1 in
    subst (λ v. AllByRecursion (IsFreshJob c.args.window.resolver.now c.args.window.changes.now c.args.window.seats.now.workers) v.items) (sym c.into_jobs.ensures) shared.0

pub returns-clause-places : goal.returns-clause-places
returns-clause-places c =
    let shared = c.in_ok-share-2.ensures.shared c.args.window.pages.items c.loop-worker.invariant.1 in
    subst (λ v. ArePlaced 0 v.items) (sym c.into_jobs.ensures) shared.1

pub returns-clause-pages : goal.returns-clause-pages
returns-clause-pages c =
    let shared = c.in_ok-share-2.ensures.shared c.args.window.pages.items c.loop-worker.invariant.1 in
    let none : c.share-2.new.self.pages.items ≡ [] = c.in_ok-share-2.ensures.left ∙ drop_all _ c.loop-worker.sharing.pages.items (omega (arith, c.len-left.ensures, c.loop-worker.sharing.pages.ok.0)) in
    let jobs : List SpreadJob = c.share-2.new.self.jobs.items in
    ap (λ v. flat_map (λ (j : SpreadJob). j.pages.items) v.items) c.into_jobs.ensures
    ∙ sym (append-nil (flat_map (λ j. j.pages.items) jobs))
    ∙ ap (λ (ps : List (List Placed)). flat_map (λ j. j.pages.items) jobs ++ ps) (sym none)
    ∙ shared.3
