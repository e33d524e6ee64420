use Rattle.std.proofs.Common.{◌-◌, ◌<◌, ◌++◌, ◌∷◌, [], ℕ, List, arith, drop, length, subst, sym, take}
use Rattle.head_column.specs.Histories.{History}
use Rattle.head_core.specs.Heads.{history_at}
use Rattle.head_intervals.specs.Parts.{AreHeadCounts}
use Rattle.head_intervals.proofs.Parted.{one_more, whole_part}
use Rattle.head_intervals.proofs.counting.counts_of_part.Goals as goal

pub loop-number-preserved : goal.loop-number-preserved
loop-number-preserved c =
    let content = c.args.head.now.content in
    let first = c.part_bounds-first.result.0 in
    let n = c.loop-number.number in
    let within : n < length content.histories = omega (arith, c.series.ensures.count, c.series.ensures.one_each, c.part_bounds-first.ensures.end) in
    subst (λ (hs : List History). AreHeadCounts c.args.intervals.now hs c.add_series.new.self) (sym (one_more content first n (omega arith) within))
    (subst (λ (m : ℕ). AreHeadCounts c.args.intervals.now (take (n - first) (drop first content.histories) ++ history_at content m ∷ []) c.add_series.new.self) c.new-in-loop-number.ensures
    (c.in_ok-add_series.ensures (take (n - first) (drop first content.histories)) c.loop-number.invariant))

pub returns : goal.returns
returns c =
    let hs = c.args.head.now.content.histories in
    let bounds = c.part_bounds-first.ensures in
    subst (λ (ks : List History). AreHeadCounts c.args.intervals.now ks c.loop-number.counts)
    (whole_part hs c.args.part c.part_bounds-first.result.0 c.loop-number.number bounds.first (omega (arith, bounds.within, c.series.ensures.count, c.series.ensures.one_each)) (omega (arith, bounds.end, bounds.within, c.series.ensures.count, c.series.ensures.one_each)))
    c.loop-number.invariant
