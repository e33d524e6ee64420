use Rattle.head_column.proofs.HistoryLaws.{history_outcomes}
use Rattle.head_column.proofs.TallyLaws.{latest_of-push, latest_outcome_is, latest_outcomes}
use Rattle.head_column.proofs.laws.tallies_follow_items.Goals as goal

pub returns-clause-push : goal.returns-clause-push
returns-clause-push c = latest_of-push

pub returns-clause-outcome : goal.returns-clause-outcome
returns-clause-outcome c = latest_outcome_is

pub returns-clause-column : goal.returns-clause-column
returns-clause-column c = history_outcomes

pub returns-clause-tally : goal.returns-clause-tally
returns-clause-tally c = latest_outcomes
