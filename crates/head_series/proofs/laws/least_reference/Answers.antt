use Rattle.head_series.proofs.BindLemmas.{least_owner}
use Rattle.head_series.proofs.laws.least_reference.Goals as goal

pub returns : goal.returns
returns c = least_owner
