use Rattle.std.proofs.Common.{◌≡◌, ◌++◌, Ok, map}
use Rattle.store.proofs.several.all_read.Given as goal

-- all files so far were read, and are these
abbrev pub invariant-loop-file : goal.invariant-loop-file
invariant-loop-file l = record { are : l.yielded ≡ map Ok l.read.items; left : l.yielded ++ l.file-iterator.rest.items ≡ l.fn.files.items }
