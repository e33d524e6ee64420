use Rattle.std.proofs.Common.{refl}
use Rattle.replay_rounds.proofs.Growing.{ends_grown}
use Rattle.replay_rounds.proofs.rounds.Rounds.add_slot.Goals as goal

pub returns-clause-ends : goal.returns-clause-ends
returns-clause-ends g c = λ items low h.
    ends_grown g.B.Builder.value g.B.Builder.after g.B.Builder.outcome _ _ c.of_new_series.result items c.args.self.now.deal c.add.new.self c.args.self.now.counts refl c.of_new_series.ensures low c.in-Ok.ensures.added c.in-Ok.ensures.slots c.in-Ok.ensures.items h
