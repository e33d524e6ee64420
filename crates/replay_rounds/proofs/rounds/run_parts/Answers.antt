use Rattle.replay_rounds.proofs.rounds.run_parts.Goals as goal

pub returns-clause-ended : goal.returns-clause-ended
returns-clause-ended g c =
    c.parts_end.ensures c.args.deal c.in-Ok.parts.items c.in_ok-finish_parts.field-0.items c.in-Ok.ensures.of_deal.0 c.in-Ok.ensures.parts c.in_ok-finish_parts.ensures.long c.in_ok-finish_parts.ensures.each
