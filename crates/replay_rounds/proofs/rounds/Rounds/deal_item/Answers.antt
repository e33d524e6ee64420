use Rattle.std.proofs.Common.{rules, ◌≡◌, ◌++◌, ◌∷◌, [], Err, length, subst}
use Rattle.replay_rounds.specs.declared.fault.RoundFault.TheVariants.{Full}
use Rattle.replay_rounds.specs.Applying.{Ends}
use Rattle.replay_rounds.proofs.Ending.{ends_more}
use Rattle.replay_rounds.proofs.rounds.Rounds.deal_item.Goals as goal

pub returns-in_err-make_room-clause-full : goal.returns-in_err-make_room-clause-full
returns-in_err-make_room-clause-full g c = λ e slots items more all h k w.
    let full : c.make_room.result ≡ Err Full = search rules in
    c.make_room.ensures.full full slots items more all h k w

pub returns-in-Ok-clause-ends : goal.returns-in-Ok-clause-ends
returns-in-Ok-clause-ends g c = λ slots items h.
    let value = g.B.Builder.value in
    let after = g.B.Builder.after in
    let outcome = g.B.Builder.outcome in
    subst (λ s. Ends value after outcome slots (items ++ (s, c.args.item) ∷ []) c.deal.new.self c.make_room.new.self.counts) c.number.ensures
    (ends_more value after outcome (c.in_ok-make_room.ensures.ends slots items h) c.deal.new.self (length c.make_room.new.self.deal.jobs) c.number.result c.args.item c.in-Ok.ensures.slots c.in-Ok.ensures.items)
