use Rattle.std.proofs.Common.{rules, ◌≡◌, Err}
use Rattle.head_series.specs.Table.{slot_at}
use Rattle.head_resolver.specs.declared.fault.HeadFault.TheVariants.{Full}
use Rattle.head_resolver.specs.Changes.{slot_before}
use Rattle.head_resolver.proofs.SpreadAhead.{past_at}
use Rattle.head_resolver.proofs.resolver.Resolver.spread_all_at.Goals as goal

pub returns-in_err-spread_entry_at-clause-full : goal.returns-in_err-spread_entry_at-clause-full
returns-in_err-spread_entry_at-clause-full g c = λ e.
    let full : c.spread_entry_at.result ≡ Err Full = search rules in
    past_at c.args.self.now.min_valid (slot_before c.args.changes.now (slot_at c.args.self.now.table) c.args.place) g.E.ItemEntry.entry c.args.entries.now c.loop-entry.entry-index c.entry-item.result c.loop-entry-test.true c.entry-item.is
    c.args.counts.now c.loop-entry.counts c.loop-entry.invariant.1 (c.spread_entry_at.ensures.full full)
