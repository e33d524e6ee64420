use Rattle.std.proofs.Common.{◌≡◌, map, take}
use Rattle.rescue_commands.proofs.run.Run.name_each.Given as goal

-- the hours so far
abbrev pub invariant-loop-hour : goal.invariant-loop-hour
invariant-loop-hour l = map (λ it. it.hour) l.named.items ≡ take l.hour-index l.hours
