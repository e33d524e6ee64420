use Rattle.std.proofs.Common.{◌≡◌, take}
use Rattle.std.specs.Prelude.{count_by}
use Rattle.head_resolver.specs.Validity.{is_expired}
use Rattle.head_resolver.proofs.items.count_expired.Given as goal

abbrev pub invariant-loop-entry : goal.invariant-loop-entry
invariant-loop-entry g l = l.expired ≡ count_by (λ e. is_expired l.min_valid (g.E.ItemEntry.entry e)) (take l.entry-index l.entries)
