use Rattle.std.proofs.Common.{string_bytes, take}
use Rattle.std.specs.List.{AllZip}
use Rattle.store.proofs.several.read_in_turn.Given as goal

-- the files so far are those of the paths so far
abbrev pub invariant-loop-place : goal.invariant-loop-place
invariant-loop-place g l = AllZip (λ path file. g.F.ReadFile.gave l.reader (string_bytes path) file) (take l.place l.paths) (take l.place l.files)
