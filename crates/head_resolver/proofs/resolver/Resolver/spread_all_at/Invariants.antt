use Rattle.std.proofs.Common.{◌≡◌, ◌++◌, take}
use Rattle.std.specs.Prelude.{map}
use Rattle.std.specs.List.{flat_map, fold}
use Rattle.wal_record.specs.Validity.{valid_entry}
use Rattle.head_series.specs.Table.{slot_at}
use Rattle.head_resolver.specs.Changes.{slot_before}
use Rattle.head_resolver.specs.Ahead.{counts_with, items_with}
use Rattle.head_resolver.proofs.resolver.Resolver.spread_all_at.Given as goal

abbrev pub invariant-loop-entry : goal.invariant-loop-entry
invariant-loop-entry g l =
    (l.spread.items ≡ l.fn.spread.items ++ flat_map (items_with (slot_before l.changes (slot_at l.self.table) l.place)) (flat_map (valid_entry l.self.min_valid) (map g.E.ItemEntry.entry (take l.entry-index l.entries))))
    × (l.counts ≡ fold (counts_with (slot_before l.changes (slot_at l.self.table) l.place)) l.fn.counts (flat_map (valid_entry l.self.min_valid) (map g.E.ItemEntry.entry (take l.entry-index l.entries))))
    × (l.spread.workers ≡ l.fn.spread.workers)
