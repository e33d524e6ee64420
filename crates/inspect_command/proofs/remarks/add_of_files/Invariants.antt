use Rattle.std.proofs.Common.{◌≡◌, ◌++◌, drop}
use Rattle.inspect_command.specs.Remarking.{file_remarks}
use Rattle.inspect_command.proofs.remarks.add_of_files.Given as goal

-- the remarks so far, and those on the files that are left
abbrev pub invariant-loop-at : goal.invariant-loop-at
invariant-loop-at l = l.told.items ++ file_remarks (drop l.at l.files) ≡ l.initial.told.items ++ file_remarks l.files
