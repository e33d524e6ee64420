use Rattle.std.proofs.Common.{◌≡◌, ◌+◌, ◌++◌, List, arith, ap, sym, subst, ◌∙◌}
use Rattle.std.specs.Prelude.{map}
use Rattle.std.specs.List.{flat_map, fold}
use Rattle.hw_bytes.proofs.Lists.{append_none}
use Rattle.wal_record.specs.declared.record.WalRecord.{WalRecord}
use Rattle.wal_record.specs.Entries.{Entry, entries_in, series}
use Rattle.wal_record.specs.Validity.{valid_entry}
use Rattle.head_series.specs.Table.{slot_at}
use Rattle.head_resolver.specs.Limits.{AreCountsWithin}
use Rattle.head_resolver.specs.Changes.{slot_before}
use Rattle.head_resolver.specs.Ahead.{counts_with, items_with}
use Rattle.head_resolver.proofs.ResolvingValid.{series_valid}
use Rattle.head_resolver.proofs.SpreadAhead.{bound_counted, bound_itemless}
use Rattle.head_resolver.proofs.resolver.Resolver.spread_record_at.Goals as goal

pub returns-in_ok-add_bound-in-Series-clause-items : goal.returns-in_ok-add_bound-in-Series-clause-items
returns-in_ok-add_bound-in-Series-clause-items c =
    let m = c.args.self.now.min_valid in
    let slots = slot_before c.args.changes.now (slot_at c.args.self.now.table) c.args.place in
    let left : flat_map (valid_entry m) (entries_in c.args.log_record.now) ≡ map series c.in-Series.entries = ap (λ (r : WalRecord). flat_map (valid_entry m) (entries_in r)) c.in-Series.is ∙ series_valid m c.in-Series.entries in
    sym (ap (λ (es : List Entry). c.args.spread.now.items ++ flat_map (items_with slots) es) left ∙ ap (λ is. c.args.spread.now.items ++ is) (bound_itemless slots c.in-Series.entries) ∙ append_none c.args.spread.now.items)

pub returns-in_ok-add_bound-in-Series-clause-counts : goal.returns-in_ok-add_bound-in-Series-clause-counts
returns-in_ok-add_bound-in-Series-clause-counts c =
    let m = c.args.self.now.min_valid in
    let slots = slot_before c.args.changes.now (slot_at c.args.self.now.table) c.args.place in
    let left : flat_map (valid_entry m) (entries_in c.args.log_record.now) ≡ map series c.in-Series.entries = ap (λ (r : WalRecord). flat_map (valid_entry m) (entries_in r)) c.in-Series.is ∙ series_valid m c.in-Series.entries in
    c.in_ok-add_bound-in-Series.ensures.more
    ∙ ap (λ n. record c.args.counts.now { series_entries = c.args.counts.now.series_entries + n }) c.len.ensures
    ∙ sym (bound_counted slots c.in-Series.entries c.args.counts.now)
    ∙ sym (ap (fold (counts_with slots) c.args.counts.now) left)

pub returns-in_err-add_bound-in-Series-clause-full : goal.returns-in_err-add_bound-in-Series-clause-full
returns-in_err-add_bound-in-Series-clause-full c = λ full w.
    let m = c.args.self.now.min_valid in
    let slots = slot_before c.args.changes.now (slot_at c.args.self.now.table) c.args.place in
    let left : flat_map (valid_entry m) (entries_in c.args.log_record.now) ≡ map series c.in-Series.entries = ap (λ (r : WalRecord). flat_map (valid_entry m) (entries_in r)) c.in-Series.is ∙ series_valid m c.in-Series.entries in
    let few = subst AreCountsWithin (ap (fold (counts_with slots) c.args.counts.now) left ∙ bound_counted slots c.in-Series.entries c.args.counts.now) w in
    let below = few.series_entries in
    let many = c.len.ensures in
    let over = c.in_err-add_bound-in-Series.ensures.full in
    omega (arith, below, many, over)
