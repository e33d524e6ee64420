use Rattle.std.proofs.Common.{string_bytes, take}
use Rattle.std.specs.List.{AllZip}
use Rattle.store.specs.Found.{Bytes}
use Rattle.store.proofs.store.Store.read_files.Given as goal

-- the files so far are those of the paths so far
abbrev pub invariant-loop-place : goal.invariant-loop-place
invariant-loop-place g l = AllZip (λ path bytes. g.Self.Store.holds l.self (string_bytes path) (Bytes bytes.items)) (take l.place l.paths) l.files.items
