use Rattle.std.proofs.Common.{◌≡◌, length, take}
use Rattle.log_directory.specs.Sources.{lost_in}
use Rattle.log_directory.proofs.flaws.lost_count.Given as goal

-- the parts of the files so far
abbrev pub invariant-loop-file : goal.invariant-loop-file
invariant-loop-file l = l.count ≡ length (lost_in (take l.file-index l.files))
