use Rattle.std.proofs.Common.{rules, ◌≡◌, ◌∙◌, ◌++◌, ◌<◌, Err, ℕ, length, ap, sym, subst}
use Rattle.std.specs.Prelude.{All}
use Rattle.head_column.specs.declared.items.Item.{Item}
use Rattle.replay_rounds.specs.declared.fault.RoundFault.TheVariants.{Full}
use Rattle.replay_rounds.specs.Applying.{Ends}
use Rattle.replay_rounds.proofs.Ending.{dealt_builders, dealt_workers, ends_all}
use Rattle.replay_rounds.proofs.rounds.Rounds.deal_spread.Goals as goal

pub returns-in_err-make_room-clause-full : goal.returns-in_err-make_room-clause-full
returns-in_err-make_room-clause-full g c = λ e slots before more all h k w.
    let full : c.make_room.result ≡ Err Full = search rules in
    c.make_room.ensures.full full slots before (c.args.spread.items ++ more) all h k w

pub deal_all-requires-clause-exist : goal.deal_all-requires-clause-exist
deal_all-requires-clause-exist g c =
    let same : length c.replace-deal.result.builders ≡ length c.args.self.now.deal.builders = ap (λ d. length d.builders) c.replace-deal.ensures.value ∙ c.in_ok-make_room.ensures.builders in
    subst (λ (n : ℕ). All (λ (k : ℕ × Item). k.0 < n) c.args.spread.items) (sym same) c.requires.within

pub returns-clause-ends : goal.returns-clause-ends
returns-clause-ends g c = λ slots before h.
    let value = g.B.Builder.value in
    let after = g.B.Builder.after in
    let outcome = g.B.Builder.outcome in
    let now = c.make_room.new.self.counts in
    let begun = subst (λ d. Ends value after outcome slots before d now) (sym c.replace-deal.ensures.value) (c.in_ok-make_room.ensures.ends slots before h) in
    subst (λ d. Ends value after outcome slots (before ++ c.args.spread.items) d now) (sym c.in-Ok.ensures.dealt) (ends_all value after outcome c.args.spread.items begun)

pub returns-clause-workers : goal.returns-clause-workers
returns-clause-workers g c =
    ap (λ d. d.workers) c.in-Ok.ensures.dealt
    ∙ dealt_workers g.B.Builder.value g.B.Builder.after g.B.Builder.outcome c.args.spread.items c.replace-deal.result
    ∙ ap (λ d. d.workers) c.replace-deal.ensures.value
    ∙ c.in_ok-make_room.ensures.workers

pub returns-clause-builders : goal.returns-clause-builders
returns-clause-builders g c =
    ap (λ d. length d.builders) c.in-Ok.ensures.dealt
    ∙ ap length (dealt_builders g.B.Builder.value g.B.Builder.after g.B.Builder.outcome c.args.spread.items c.replace-deal.result)
    ∙ ap (λ d. length d.builders) c.replace-deal.ensures.value
    ∙ c.in_ok-make_room.ensures.builders
