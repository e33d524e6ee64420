use Rattle.rescue_commands.specs.Steps.{AreBoundsUpTo}
use Rattle.rescue_commands.proofs.planning.parted.Given as goal

abbrev pub invariant-loop-hour : goal.invariant-loop-hour
invariant-loop-hour l = AreBoundsUpTo l.bounds.items l.last
