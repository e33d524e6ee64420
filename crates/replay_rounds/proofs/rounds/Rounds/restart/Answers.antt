use Rattle.std.proofs.Common.{rules, ◌≡◌, ◌∙◌, Err, List, length, sym, ap, subst}
use Rattle.head_column.specs.declared.items.Outcome.{Outcome}
use Rattle.head_core.specs.Applied.{values_after, outcomes_after, AreCountsOfOutcomes}
use Rattle.replay_rounds.specs.declared.fault.RoundFault.TheVariants.{Full}
use Rattle.replay_rounds.specs.Applying.{Ends}
use Rattle.replay_rounds.proofs.Ending.{builders_long, ends_again, all_outcomes}
use Rattle.replay_rounds.proofs.rounds.Rounds.restart.Goals as goal

pub returns-in_err-self-clause-full : goal.returns-in_err-self-clause-full
returns-in_err-self-clause-full g c = λ e slots items more all h k w.
    let value = g.B.Builder.value in
    let after = g.B.Builder.after in
    let outcome = g.B.Builder.outcome in
    let full : c.renew_deal.result ≡ Err Full = search rules in
    let ends = subst (λ d. Ends value after outcome slots items d c.args.self.now.counts) (sym c.replace-ended.ensures.value) h in
    c.renew_deal.ensures.full full ends.counted (outcomes_after after outcome (values_after after slots items) more) all ends.counts (subst (λ (os : List Outcome). AreCountsOfOutcomes os all) (all_outcomes value after outcome ends more) k) w

pub returns-clause-ends : goal.returns-clause-ends
returns-clause-ends g c = λ slots items h.
    let value = g.B.Builder.value in
    let after = g.B.Builder.after in
    let outcome = g.B.Builder.outcome in
    let ends = subst (λ d. Ends value after outcome slots items d c.args.self.now.counts) (sym c.replace-ended.ensures.value) h in
    ends_again value after outcome ends _ _ c.in_ok-self.field-0.builders _ c.renew_deal.new.counts c.in_ok-self.ensures.values (c.in_ok-self.ensures.counted ends.counted ends.counts) c.in_ok-self.ensures.new

pub returns-clause-builders : goal.returns-clause-builders
returns-clause-builders g c =
    builders_long g.B.Builder.value g.B.Builder.after g.B.Builder.outcome c.in_ok-self.field-0.builders c.replace-ended.result c.in_ok-self.ensures.values
    ∙ ap (λ d. length d.builders) c.replace-ended.ensures.value
