use Rattle.std.proofs.Common.{◌≡◌, ℕ, length, ap, arith, subst, ◌∙◌}
use Rattle.std.proofs.lemmas.List.Filters.{dedup_is}
use Rattle.std.specs.Ordering.{int_eq}
use Rattle.head_core.specs.Heads.{history_at}
use Rattle.block_cut.proofs.Found.{AreFoundBelow, found_all, found_series, once_ascends, once_same}
use Rattle.block_cut.proofs.ranges.sampled_hours.Goals as goal

pub loop-number-preserved : goal.loop-number-preserved
loop-number-preserved c =
    found_series c.loop-number.number c.loop-number.hours.items c.add_hours.new.hours.items c.deref.result.now c.args.head.now.content
    (c.deref.ensures.value ∙ c.in_ok-samples.ensures.samples ∙ ap (λ (slot : ℕ). (history_at c.args.head.now.content slot).samples) c.new.ensures)
    c.loop-number.invariant c.in_ok-add_hours.ensures

pub returns-clause-ascending : goal.returns-clause-ascending
returns-clause-ascending c = once_ascends c.sort_hours.new.hours.items c.dedup.new.self.items c.in_ok-sort_hours.ensures.sorted (dedup_is int_eq _ _ c.dedup.ensures.filtered)

pub returns-clause-exact : goal.returns-clause-exact
returns-clause-exact c = λ k.
    let content = c.args.head.now.content in
    let all : c.loop-number.number ≡ length content.table.series = omega (arith, c.loop-number-test.false, c.series-series.ensures.count, c.series-series.ensures.fits) in
    let once = once_same c.loop-number.hours.items c.sort_hours.new.hours.items c.dedup.new.self.items c.in_ok-sort_hours.ensures.permutation (dedup_is int_eq _ _ c.dedup.ensures.filtered) k in
    let found = found_all c.loop-number.hours.items content c.series-series.ensures.one_each (subst (λ (n : ℕ). AreFoundBelow n c.loop-number.hours.items content) all c.loop-number.invariant) k in
    (λ h. found.0 (once.0 h), λ r. once.1 (found.1 r))
