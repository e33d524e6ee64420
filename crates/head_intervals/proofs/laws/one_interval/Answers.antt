use Rattle.head_intervals.proofs.Placing.{one}
use Rattle.head_intervals.proofs.laws.one_interval.Goals as goal

pub returns : goal.returns
returns c = λ i j k t wide a b. one i j k t a b
