use Rattle.std.proofs.Common.{◌+◌, ◌*◌, vec_len}
use Rattle.head_tests.proofs.crowd.+halving.Given as goal

abbrev pub decreases-append_at_once : goal.decreases-append_at_once
decreases-append_at_once g l = 3 * vec_len l.writers

abbrev pub decreases-join+arg2 : goal.decreases-join+arg2
decreases-join+arg2 g l = 3 * vec_len l.writers + 1

abbrev pub decreases-join+arg3 : goal.decreases-join+arg3
decreases-join+arg3 g l = 3 * vec_len l.rest + 1
