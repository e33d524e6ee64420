use Rattle.std.proofs.Common.{map, take}
use Rattle.std.specs.Prelude.{string_bytes}
use Rattle.command_tests.specs.Listings.{AreNamesAt, file_of}
use Rattle.command_tests.proofs.listing.names_in.Given as goal

-- the names of the files so far
abbrev pub invariant-loop-file : goal.invariant-loop-file
invariant-loop-file l = AreNamesAt (map file_of (take l.file-index l.files)) l.start (map string_bytes l.names.items)
