use Rattle.std.proofs.Common.{◌≡◌, map, take}
use Rattle.command_tests.specs.Listings.{file_of}
use Rattle.command_tests.proofs.listed.with_new.Given as goal

abbrev pub invariant-loop-file : goal.invariant-loop-file
invariant-loop-file l = map file_of l.made.items ≡ map file_of (take l.file-index l.files)
