use Rattle.std.proofs.Common.{take}
use Rattle.inspect_files.specs.Sums.{AreSumsOf}
use Rattle.inspect_files.proofs.sums.sums_of.Given as goal

-- the sums of the files so far
abbrev pub invariant-loop-file : goal.invariant-loop-file
invariant-loop-file l = AreSumsOf (take l.file-index l.files) l.sums
