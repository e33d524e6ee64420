use Rattle.std.proofs.Common.{rules, ◌≡◌, ◌+◌, ℤ, of_z, to_z, w64, ap, refl, sym, subst, length, ◌∙◌}
use Rattle.std.specs.List.{flat_map, fold}
use Rattle.wal_record.specs.declared.record.WalRecord.{WalRecord}
use Rattle.wal_record.specs.declared.record.WalRecord.TheVariants.{Samples}
use Rattle.wal_record.specs.Entries.{entries_in}
use Rattle.wal_record.specs.Validity.{valid_entry}
use Rattle.head_series.specs.Table.{slot_at}
use Rattle.head_resolver.specs.declared.counts.Counts.{Counts}
use Rattle.head_resolver.specs.Limits.{AreCountsWithin}
use Rattle.head_resolver.specs.Steps.{with_expired, with_record}
use Rattle.head_resolver.specs.Changes.{slot_before}
use Rattle.head_resolver.specs.Ahead.{counts_with}
use Rattle.head_resolver.proofs.SpreadAhead.{added_within, both_ok, spread_more, within_before}
use Rattle.head_resolver.proofs.resolver.Resolver.spread_samples_at.Goals as goal

pub returns-in_err-add_samples-clause-full : goal.returns-in_err-add_samples-clause-full
returns-in_err-add_samples-clause-full c = λ e t front before rs back h s at w.
    let m = c.args.self.now.min_valid in
    let r : WalRecord = Samples c.args.samples.now in
    let slots = slot_before c.args.changes.now (slot_at c.args.self.now.table) in
    let time : to_z w64 (of_z w64 c.min_valid.result) ≡ m = search rules in
    c.in_err-add_samples.ensures.full
    (subst (λ (z : ℤ). AreCountsWithin (with_expired z r (with_record r c.args.counts.now))) (sym time)
    (within_before (slots c.args.place) (flat_map (valid_entry m) (entries_in r)) (with_expired m r (with_record r c.args.counts.now))
    (added_within t front before rs back r c.args.changes.now c.args.self.now c.args.spread.now.items c.args.counts.now (length front + length before) c.args.place h refl at s w)))

pub returns-clause-spread : goal.returns-clause-spread
returns-clause-spread c = λ first rs s at.
    let m = c.args.self.now.min_valid in
    let r : WalRecord = Samples c.args.samples.now in
    let slots = slot_before c.args.changes.now (slot_at c.args.self.now.table) in
    let time : to_z w64 (of_z w64 c.min_valid.result) ≡ m = search rules in
    let counted : c.add_samples.new.self ≡ with_expired m r (with_record r c.args.counts.now) = c.in_ok-add_samples.ensures.more ∙ ap (λ (z : ℤ). with_expired z r (with_record r c.args.counts.now)) time in
    both_ok c.spread_all_at.result
    (λ items counts. spread_more m slots first c.args.place rs r c.args.spread.now.items c.spread_all_at.new.spread.items c.args.counts.now c.spread_all_at.new.counts s at
    items (counts ∙ ap (λ (k : Counts). fold (counts_with (slots c.args.place)) k (flat_map (valid_entry m) (entries_in r))) counted))
    c.spread_all_at.ensures.items c.spread_all_at.ensures.counts

pub returns-clause-full : goal.returns-clause-full
returns-clause-full c = λ e t front before rs back h s at w.
    let m = c.args.self.now.min_valid in
    let r : WalRecord = Samples c.args.samples.now in
    let slots = slot_before c.args.changes.now (slot_at c.args.self.now.table) in
    let time : to_z w64 (of_z w64 c.min_valid.result) ≡ m = search rules in
    let counted : c.add_samples.new.self ≡ with_expired m r (with_record r c.args.counts.now) = c.in_ok-add_samples.ensures.more ∙ ap (λ (z : ℤ). with_expired z r (with_record r c.args.counts.now)) time in
    c.spread_all_at.ensures.full e
    (subst (λ (k : Counts). AreCountsWithin (fold (counts_with (slots c.args.place)) k (flat_map (valid_entry m) (entries_in r)))) (sym counted)
    (added_within t front before rs back r c.args.changes.now c.args.self.now c.args.spread.now.items c.args.counts.now (length front + length before) c.args.place h refl at s w))
