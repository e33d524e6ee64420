use Rattle.std.proofs.Common.{◌≡◌, Ok, map}
use Rattle.store.proofs.disk.names_of.Given as goal

-- the entries so far had just these names
abbrev pub invariant-loop-entry : goal.invariant-loop-entry
invariant-loop-entry g l = l.yielded ≡ map Ok l.names.items
