use Rattle.std.proofs.Common.{◌≡◌, ◌++◌, ◌∷◌, [], ℕ, List, subst}
use Rattle.head_deal.specs.Jobs.{Finished}
use Rattle.head_deal.specs.Endings.{told_of}
use Rattle.head_deal.specs.Dealing.{course}
use Rattle.head_column.specs.declared.items.Outcome.{Outcome}
use Rattle.head_core.specs.Applied.{values_after, outcomes_after, AreCountsOfOutcomes}
use Rattle.replay_rounds.specs.Applying.{Ends}
use Rattle.replay_rounds.proofs.Ending.{all_at_once, ends_at_once}
use Rattle.replay_rounds.proofs.rounds.Rounds.apply_item.Goals as goal

pub returns-in_err-count_outcome-clause-full : goal.returns-in_err-count_outcome-clause-full
returns-in_err-count_outcome-clause-full g c = λ e slots before more all h k w.
    let value = g.B.Builder.value in
    let after = g.B.Builder.after in
    let outcome = g.B.Builder.outcome in
    let told = subst (λ (s : ℕ). told_of outcome s c.args.item.now (course value c.args.self.now.deal).slots ≡ Finished c.in-Ok.outcome) c.number.ensures c.in-Ok.ensures.told in
    c.in_err-count_outcome.ensures.full h.counted (outcomes_after after outcome (values_after after slots (before ++ (c.args.slot, c.args.item.now) ∷ [])) more) all h.counts
    (subst (λ (os : List Outcome). AreCountsOfOutcomes os all) (all_at_once value after outcome h c.args.slot c.args.item.now c.in-Ok.outcome more c.requires.none told) k) w

pub returns-clause-ends : goal.returns-clause-ends
returns-clause-ends g c = λ slots before h.
    let value = g.B.Builder.value in
    let after = g.B.Builder.after in
    let outcome = g.B.Builder.outcome in
    subst (λ s. Ends value after outcome slots (before ++ (s, c.args.item.now) ∷ []) c.apply.new.self c.count_outcome.new.counts) c.number.ensures
    (ends_at_once value after outcome h c.apply.new.self c.count_outcome.new.counts c.number.result c.args.item.now c.in-Ok.outcome c.requires.none c.in-Ok.ensures.none c.in-Ok.ensures.slots c.in-Ok.ensures.told (c.in_ok-count_outcome.ensures.counted h.counted h.counts))
