use Rattle.std.proofs.Common.{◌≡◌, ◌≤◌, take, length}
use Rattle.std.specs.Prelude.{map}
use Rattle.std.specs.List.{flat_map}
use Rattle.std.specs.Vec.{vec_capacity}
use Rattle.wal_record.specs.Validity.{valid_entry}
use Rattle.head_resolver.specs.Resolving.{Resolves}
use Rattle.head_resolver.proofs.resolver.Resolver.find_all.Given as goal

abbrev pub invariant-loop-entry : goal.invariant-loop-entry
invariant-loop-entry g l =
    Resolves l.fn.self (flat_map (valid_entry l.fn.self.min_valid) (map g.E.ItemEntry.entry (take l.entry-index l.entries))) l.items.items l.self
    × (l.self.failed ≡ l.fn.self.failed)
    × (length l.items.items ≤ l.entry-index)
    × (length l.entries ≤ vec_capacity l.items)
