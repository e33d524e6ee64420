use Rattle.head_column.proofs.Greatest.{greatest_time, one_time}
use Rattle.head_column.proofs.laws.greatest_time.Goals as goal

pub returns : goal.returns
returns c = record { is = greatest_time; one = one_time }
