use Rattle.head_series.proofs.Greatest.{greatest_reference, one_reference}
use Rattle.head_series.proofs.laws.greatest_reference.Goals as goal

pub returns : goal.returns
returns c = record { is = greatest_reference; one = one_reference }
