use Rattle.std.proofs.Common.{length}
use Rattle.rescue_commands.proofs.Groups.{Left}
use Rattle.rescue_commands.proofs.hours.write_each.Given as goal

-- the blocks of the hours before the rest
abbrev pub invariant-loop-rest : goal.invariant-loop-rest
invariant-loop-rest g l = Left g.S.Store.did g.S.Store.holds l.shelf.out.now l.head.content l.initial.store l.hours l.rest l.store

abbrev pub decreases-loop-rest : goal.decreases-loop-rest
decreases-loop-rest g l = length l.rest
