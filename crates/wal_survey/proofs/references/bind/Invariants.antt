use Rattle.std.proofs.Common.{◌≡◌, ◌||◌, ℕ, nat_eq, take}
use Rattle.std.specs.List.{list_any}
use Rattle.wal_survey.specs.ReferenceSets.{has}
use Rattle.wal_survey.specs.Unbound.{series_references}
use Rattle.wal_survey.proofs.references.bind.Given as goal

abbrev pub invariant-loop-entry : goal.invariant-loop-entry
invariant-loop-entry l = (r : ℕ) → has l.bound r ≡ (list_any (nat_eq r) (series_references (take l.entry-index l.series)) || has l.fn.bound r)
