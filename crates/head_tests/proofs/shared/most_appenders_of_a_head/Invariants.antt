use Rattle.head_tests.proofs.shared.most_appenders_of_a_head.Given as goal

abbrev pub ghosts-most_appenders-K-HeadRun : goal.ghosts-most_appenders-K-HeadRun
ghosts-most_appenders-K-HeadRun g a = record { opening = a.live.now }

abbrev pub ghosts-most_appenders-K-Ledger : goal.ghosts-most_appenders-K-Ledger
ghosts-most_appenders-K-Ledger g a = record { name = a.blank.name; parts = a.blank.parts }
