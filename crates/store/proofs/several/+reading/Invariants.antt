use Rattle.std.proofs.Common.{◌+◌, ◌-◌}
use Rattle.store.proofs.several.+reading.Given as goal

abbrev pub decreases-read_among : goal.decreases-read_among
decreases-read_among g l = l.readers + l.readers + l.readers

abbrev pub decreases-read_both : goal.decreases-read_both
decreases-read_both g l = l.readers + l.readers + l.readers - 1

abbrev pub decreases-read_both-among : goal.decreases-read_both-among
decreases-read_both-among g l = l.readers + l.readers + l.readers - 2
