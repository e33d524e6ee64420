use Rattle.head_tests.proofs.sources.PartsLogSource.next.Goals as goal

pub returns-clause-gave : goal.returns-clause-gave
returns-clause-gave c = λ first before h. c.in-Ok.ensures.gave first.lent before h
