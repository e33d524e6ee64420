use Rattle.std.proofs.Common.{sym}
use Rattle.head_column.proofs.HistoryLaws.{IsHistoryOf-push, IsHistoryOf-history_of, history_outcome_is, one_history}
use Rattle.head_column.proofs.OneRuns.{one_runs_of}
use Rattle.head_column.proofs.Stale.{has_reached-samples_of}
use Rattle.head_column.proofs.laws.columns_follow_items.Goals as goal

pub returns-clause-push : goal.returns-clause-push
returns-clause-push c = IsHistoryOf-push

pub returns-clause-outcome : goal.returns-clause-outcome
returns-clause-outcome c = history_outcome_is

pub returns-clause-stale : goal.returns-clause-stale
returns-clause-stale c items t = sym (has_reached-samples_of items t)

pub returns-clause-made : goal.returns-clause-made
returns-clause-made c = IsHistoryOf-history_of

pub returns-clause-one_history : goal.returns-clause-one_history
returns-clause-one_history c = one_history

pub returns-clause-one_list : goal.returns-clause-one_list
returns-clause-one_list c = one_runs_of
