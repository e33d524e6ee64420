use Rattle.std.proofs.Common.{◌+◌, ◌-◌}
use Rattle.store.proofs.disk.+parts.Given as goal

abbrev pub decreases-fill : goal.decreases-fill
decreases-fill g l = l.threads + l.threads

abbrev pub decreases-here : goal.decreases-here
decreases-here g l = l.threads + l.threads - 1
