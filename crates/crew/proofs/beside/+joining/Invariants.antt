use Rattle.std.proofs.Common.{vec_len}
use Rattle.crew.proofs.beside.+joining.Given as goal

abbrev pub decreases-join_from : goal.decreases-join_from
decreases-join_from g l = vec_len l.workers
