use Rattle.head_column.proofs.HourLaws.{one_hour, has_time_just, edges_just, inside}
use Rattle.head_column.proofs.laws.hours.Goals as goal

pub returns : goal.returns
returns c = record { one = one_hour; between = has_time_just; edges = edges_just; inside = inside }
