use Rattle.std.proofs.Common.{◌≡◌, ◌+◌, ◌-◌, length}
use Rattle.head_live.proofs.known.KnownSets.follow.Given as goal

abbrev pub invariant-loop-self : goal.invariant-loop-self
invariant-loop-self l = l.self.sets ≡ l.fn.self.sets

abbrev pub decreases-loop-self : goal.decreases-loop-self
decreases-loop-self l = l.last + 1 - length l.self.next.items
