use Rattle.std.proofs.Common.{◌≡◌, drop}
use Rattle.inspect_command.specs.Remarks.{are_read}
use Rattle.inspect_command.proofs.on_file.are_read.Given as goal

-- all that is left to be looked at is in the files that are left
abbrev pub invariant-loop-at : goal.invariant-loop-at
invariant-loop-at l = are_read l.files ≡ are_read (drop l.at l.files)
