use Rattle.std.proofs.Common.{◌≡◌, length}
use Rattle.store.proofs.several.places_for.Given as goal

-- one for each path so far
abbrev pub invariant-loop-place : goal.invariant-loop-place
invariant-loop-place l = length l.files.items ≡ l.place
