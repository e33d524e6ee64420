use Rattle.std.proofs.Common.{◌-◌, ◌<◌, ◌++◌, ◌∙◌, ℕ, List, ap, arith, drop, length, map, subst, sym, take}
use Rattle.std.specs.Prelude.{ℤ}
use Rattle.xor_chunk.specs.declared.sample.Sample.{Sample}
use Rattle.head_column.specs.Histories.{History}
use Rattle.head_core.specs.Heads.{history_at}
use Rattle.head_intervals.specs.Intervals.{AreEnds}
use Rattle.head_intervals.specs.Parts.{times_in}
use Rattle.head_intervals.proofs.Parted.{one_more, times_push, whole_part}
use Rattle.head_intervals.proofs.ends.ends_of_part.Goals as goal

pub loop-number-preserved : goal.loop-number-preserved
loop-number-preserved c =
    let content = c.args.head.now.content in
    let first = c.part_bounds-first.result.0 in
    let n = c.loop-number.number in
    let before : List History = take (n - first) (drop first content.histories) in
    let within : n < length content.histories = omega (arith, c.requires.series, c.requires.one_each, c.part_bounds-first.ensures.end) in
    let these = c.ends_of_samples.ensures in
    let all = c.joined-ends.ensures (times_in before) (map (λ (s : Sample). s.time) c.deref.result.now) c.loop-number.invariant these in
    let samples = c.deref.ensures.value ∙ c.in_ok-samples.ensures.samples ∙ ap (λ (m : ℕ). (history_at content m).samples) c.new.ensures in
    let times = ap (λ (ss : List Sample). times_in before ++ map (λ (s : Sample). s.time) ss) samples ∙ sym (times_push before (history_at content n)) ∙ ap times_in (sym (one_more content first n (omega arith) within)) in
    subst (λ (ts : List ℤ). AreEnds ts c.joined-ends.result) times all

pub returns : goal.returns
returns c =
    let hs = c.args.head.now.content.histories in
    let bounds = c.part_bounds-first.ensures in
    subst (λ (ks : List History). AreEnds (times_in ks) c.loop-number.ends)
    (whole_part hs c.args.part c.part_bounds-first.result.0 c.loop-number.number bounds.first (omega (arith, bounds.within, c.requires.series, c.requires.one_each)) (omega (arith, bounds.end, bounds.within, c.requires.series, c.requires.one_each)))
    c.loop-number.invariant
