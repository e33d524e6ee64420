use Rattle.std.proofs.Common.{◌≡◌, take}
use Rattle.rescue_commands.proofs.cutting.are_same.Given as goal

-- the files so far are the same
abbrev pub invariant-loop-place : goal.invariant-loop-place
invariant-loop-place l = take l.place l.files ≡ take l.place l.others
