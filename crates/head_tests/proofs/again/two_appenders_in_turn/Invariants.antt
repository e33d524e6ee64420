use Rattle.head_tests.proofs.again.two_appenders_in_turn.Given as goal

abbrev pub ghosts-in_turn-K-HeadRun : goal.ghosts-in_turn-K-HeadRun
ghosts-in_turn-K-HeadRun g a = record { opening = a.live.now }

abbrev pub ghosts-in_turn-K-Ledger : goal.ghosts-in_turn-K-Ledger
ghosts-in_turn-K-Ledger g a = record { name = a.blank.name; parts = a.blank.parts }
