use Rattle.std.proofs.Common.{vec_len}
use Rattle.crew.proofs.beside.+starting.Given as goal

abbrev pub decreases-start_from : goal.decreases-start_from
decreases-start_from g l = vec_len l.jobs
