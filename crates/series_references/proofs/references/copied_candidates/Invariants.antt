use Rattle.std.proofs.Common.{◌≡◌, take}
use Rattle.series_references.proofs.references.copied_candidates.Given as goal

abbrev pub invariant-loop-one : goal.invariant-loop-one
invariant-loop-one l = l.copy.items ≡ take l.one-index l.candidates
