use Rattle.std.proofs.Common.{◌∙◌, sym}
use Rattle.head_live.proofs.StartLemmas.{start_found, start_none}
use Rattle.head_live.proofs.judging.standing_of.Goals as goal

pub returns-in-Some-clause-standing : goal.returns-in-Some-clause-standing
returns-in-Some-clause-standing c = start_found _ _ c.in-Some.slot _ c.requires.distinct (sym c.find.ensures.slot ∙ c.in-Some.is) c.reference.ensures c.last_time.ensures

pub returns-in-None-clause-standing : goal.returns-in-None-clause-standing
returns-in-None-clause-standing c = start_none _ _ c.requires.distinct (sym c.find.ensures.slot ∙ c.in-None.is)
