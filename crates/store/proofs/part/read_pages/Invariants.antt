use Rattle.std.proofs.Common.{◌-◌, ℕ}
use Rattle.store.proofs.part.read_pages.Given as goal

abbrev pub decreases-loop-offset : goal.decreases-loop-offset
decreases-loop-offset l = l.length - l.offset
