use Rattle.std.proofs.Common.{rules, ◌≡◌, of_z, to_z, w64, ap, sym, ◌∙◌}
use Rattle.std.specs.List.{fold}
use Rattle.std.proofs.lemmas.Result.{on_ok_weaker}
use Rattle.wal_record.specs.Validity.{valid_entry}
use Rattle.head_series.specs.Table.{Table, slot_at}
use Rattle.head_resolver.specs.Resolving.{with_item}
use Rattle.head_resolver.specs.Changes.{slot_before}
use Rattle.head_resolver.specs.Ahead.{counts_with}
use Rattle.head_resolver.proofs.resolver.Resolver.spread_entry_at.Goals as goal

pub returns-in-Some-clause-counts : goal.returns-in-Some-clause-counts
returns-in-Some-clause-counts g c =
    let slots = slot_before c.args.changes.now (slot_at c.args.self.now.table) c.args.place in
    let slot = c.slot_before-slot.ensures.slot ∙ ap (λ (t : Table). slot_before c.args.changes.now (slot_at t) c.args.place c.in-Some.reference) c.any_table.ensures in
    let time : to_z w64 (of_z w64 c.min_valid.result) ≡ c.args.self.now.min_valid = search rules in
    on_ok_weaker c.put_item.result
    (λ put.
    put
    ∙ ap (λ o. with_item o c.in-Some.item c.args.counts.now) slot
    ∙ sym (c.in-Some.ensures.some.counts slots c.args.counts.now)
    ∙ ap (λ m. fold (counts_with slots) c.args.counts.now (valid_entry m (g.E.ItemEntry.entry c.args.entry.now))) time)
    c.put_item.ensures.counts
