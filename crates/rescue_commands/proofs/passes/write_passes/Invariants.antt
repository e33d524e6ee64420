use Rattle.std.proofs.Common.{length}
use Rattle.rescue_commands.proofs.InPasses.{Left}
use Rattle.rescue_commands.proofs.passes.write_passes.Given as goal

-- the passes that are left begin at the least time of the next one
abbrev pub invariant-loop-next : goal.invariant-loop-next
invariant-loop-next g l =
    Left g.S.Store.did g.S.Store.holds l.request.form l.request.dir.now l.request.out.now l.request.options.min_valid l.initial.store l.bounds l.left l.min_time l.store

abbrev pub decreases-loop-next : goal.decreases-loop-next
decreases-loop-next g l = length l.left
