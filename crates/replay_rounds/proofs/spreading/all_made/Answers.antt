use Rattle.std.proofs.Common.{◌∙◌, ◌++◌, ◌∷◌, [], List, sym, ap, append_assoc}
use Rattle.std.specs.Vec.Iter.{into_iter_items}
use Rattle.hw_bytes.proofs.Lists.{map_push}
use Rattle.replay_rounds.specs.declared.spreading.Spreading.{Spreading}
use Rattle.replay_rounds.specs.declared.spreading.SpreadJob.{SpreadJob}
use Rattle.replay_rounds.proofs.spreading.all_made.Goals as goal

pub loop-job-preserved : goal.loop-job-preserved
loop-job-preserved c =
    let so_far = c.loop-job.invariant in
    let job : SpreadJob = c.in-Some.job in (
      so_far.0 ++ job ∷ [],
      append_assoc so_far.0 (job ∷ []) (into_iter_items c.next.new.self) ∙ sym (ap (λ (js : List SpreadJob). so_far.0 ++ js) c.in-Some.ensures.steps.0) ∙ so_far.1,
      c.in_ok-push.ensures.items ∙ ap (λ (ms : List Spreading). ms ++ job.made ∷ []) so_far.2 ∙ sym (map_push (λ (j : SpreadJob). j.made) so_far.0 job),
    )
