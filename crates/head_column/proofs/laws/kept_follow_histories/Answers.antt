use Rattle.head_column.proofs.KeptLaws.{kept_after_is, kept_outcome_is}
use Rattle.head_column.proofs.laws.kept_follow_histories.Goals as goal

pub returns : goal.returns
returns c = record { after = kept_after_is; outcome = kept_outcome_is }
