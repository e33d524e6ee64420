use Rattle.std.proofs.Common.{arith, ◌≡◌, ◌∙◌, ◌+◌, ◌++◌, ◌∷◌, [], List, length, append_assoc, sym, ap, subst}
use Rattle.std.proofs.lemmas.List.{take-append-drop}
use Rattle.std.specs.List.{AllByRecursion, flat_map}
use Rattle.std.specs.Prelude.{take}
use Rattle.hw_bytes.proofs.Lists.{flat_map-push}
use Rattle.wal_scan.proofs.Lists.{all_push}
use Rattle.wal_log.specs.declared.reading.Placed.{Placed}
use Rattle.replay_rounds.specs.Records.{records_of}
use Rattle.replay_rounds.specs.Shares.{ArePlaced, IsFreshJob}
use Rattle.replay_rounds.specs.declared.spreading.SpreadJob.{SpreadJob}
use Rattle.replay_rounds.proofs.Windows.{placed_push, records_push_job}
use Rattle.replay_rounds.proofs.window.SharedWindow.share.Goals as goal

pub returns-clause-shared : goal.returns-clause-shared
returns-clause-shared c = λ pages h.
    let job : SpreadJob = c.in_ok-job.job in
    let jobs : List SpreadJob = c.args.self.now.jobs.items in
    let items : c.push.new.self.items ≡ jobs ++ job ∷ [] = c.in_ok-push.ensures.items in
    let fresh : AllByRecursion (IsFreshJob c.args.resolver.now c.args.changes.now c.args.seats.now.workers) c.push.new.self.items =
    subst (AllByRecursion (IsFreshJob c.args.resolver.now c.args.changes.now c.args.seats.now.workers)) (sym items)
    (all_push (IsFreshJob c.args.resolver.now c.args.changes.now c.args.seats.now.workers) jobs job h.0 c.in_ok-job.ensures.fresh) in
    let first : job.place ≡ 0 + length (records_of (flat_map (λ j. j.pages.items) jobs)) = omega (arith, c.in_ok-job.ensures.place, h.2) in
    let had : job.pages.items ≡ c.deref.result.now = c.in_ok-job.ensures.pages ∙ sym c.deref.ensures.value in
    let more : length (records_of c.deref.result.now) ≡ length (records_of job.pages.items) = ap (λ (ps : List (List Placed)). length (records_of ps)) (sym had) in
    let behind : c.in_ok-behind.behind ≡ length (records_of (flat_map (λ j. j.pages.items) (jobs ++ job ∷ []))) =
    omega (arith, c.in_ok-behind.ensures, h.2, more, records_push_job jobs job) in
    let parted : job.pages.items ++ c.in_ok-later.later.items ≡ c.args.self.now.pages.items =
    ap (λ (ps : List (List Placed)). ps ++ c.in_ok-later.later.items) (c.in_ok-job.ensures.pages ∙ ap (λ v. v.items) c.replace-share.ensures.value ∙ c.in_ok-later.ensures.items)
    ∙ ap (λ (ps : List (List Placed)). take c.min-count.result c.args.self.now.pages.items ++ ps) c.in_ok-later.ensures.tail
    ∙ take-append-drop c.min-count.result c.args.self.now.pages.items in
    let all : flat_map (λ j. j.pages.items) c.push.new.self.items ++ c.in_ok-later.later.items ≡ pages =
    ap (λ (js : List SpreadJob). flat_map (λ j. j.pages.items) js ++ c.in_ok-later.later.items) items
    ∙ ap (λ (ps : List (List Placed)). ps ++ c.in_ok-later.later.items) (flat_map-push (λ (j : SpreadJob). j.pages.items) jobs job)
    ∙ append_assoc (flat_map (λ j. j.pages.items) jobs) job.pages.items c.in_ok-later.later.items
    ∙ ap (λ (ps : List (List Placed)). flat_map (λ j. j.pages.items) jobs ++ ps) parted
    ∙ h.3 in (
      fresh,
      subst (ArePlaced 0) (sym items) (placed_push 0 jobs job h.1 first),
      behind ∙ ap (λ (js : List SpreadJob). length (records_of (flat_map (λ j. j.pages.items) js))) (sym items),
      ap (λ v. flat_map (λ j. j.pages.items) c.push.new.self.items ++ v.items) c.replace-share.ensures.after ∙ all,
    )
