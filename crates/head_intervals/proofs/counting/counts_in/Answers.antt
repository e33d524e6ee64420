use Rattle.std.proofs.Common.{◌≡◌, ◌*◌, ◌∙◌, ℕ, List, ap, arith, length, subst, sym, take}
use Rattle.head_column.specs.Histories.{History}
use Rattle.head_intervals.specs.declared.counting.HeadCounts.{HeadCounts}
use Rattle.head_intervals.specs.Intervals.{AreCounts}
use Rattle.head_intervals.specs.Parts.{AreHeadCounts, first_times_in, part_at, part_length, times_in}
use Rattle.head_intervals.proofs.Parted.{all_parts, as_many, part_more, told_at}
use Rattle.head_intervals.proofs.counting.counts_in.Goals as goal

pub add_all-requires-clause-samples : goal.add_all-requires-clause-samples
add_all-requires-clause-samples g c =
    let told = λ (part : ℕ) (d : HeadCounts). AreHeadCounts c.args.intervals.now (part_at c.args.head.now.content.histories part) d in
    let these = told_at told c.part_count-parts.result c.in_ok-each.each.items c.deref-part-items.result.now c.loop-part.part-index c.part-item.result c.in_ok-each.ensures c.deref-part-items.ensures.value c.loop-part-test.true c.part-item.is in
    c.loop-part.invariant.samples.as_many ∙ sym these.samples.as_many

pub add_all-requires-clause-series : goal.add_all-requires-clause-series
add_all-requires-clause-series g c =
    let told = λ (part : ℕ) (d : HeadCounts). AreHeadCounts c.args.intervals.now (part_at c.args.head.now.content.histories part) d in
    let these = told_at told c.part_count-parts.result c.in_ok-each.each.items c.deref-part-items.result.now c.loop-part.part-index c.part-item.result c.in_ok-each.ensures c.deref-part-items.ensures.value c.loop-part-test.true c.part-item.is in
    c.loop-part.invariant.series.as_many ∙ sym these.series.as_many

pub loop-part-preserved : goal.loop-part-preserved
loop-part-preserved g c =
    let hs = c.args.head.now.content.histories in
    let n = c.loop-part.part-index in
    let told = λ (part : ℕ) (d : HeadCounts). AreHeadCounts c.args.intervals.now (part_at hs part) d in
    let these = told_at told c.part_count-parts.result c.in_ok-each.each.items c.deref-part-items.result.now n c.part-item.result c.in_ok-each.ensures c.deref-part-items.ensures.value c.loop-part-test.true c.part-item.is in
    subst (λ (ks : List History). AreHeadCounts c.args.intervals.now ks c.add_all.new.self) (sym (part_more hs n))
    (c.in_ok-add_all.ensures c.args.intervals.now (take (n * part_length) hs) (part_at hs n) c.loop-part.invariant these)

pub returns-clause-samples : goal.returns-clause-samples
returns-clause-samples g c =
    let hs = c.args.head.now.content.histories in
    let told = λ (part : ℕ) (d : HeadCounts). AreHeadCounts c.args.intervals.now (part_at hs part) d in
    let many = as_many told 0 c.part_count-parts.result c.in_ok-each.each.items c.in_ok-each.ensures in
    let n = c.loop-part.part-index in
    let same : n ≡ c.part_count-parts.result = omega (arith, many, ap length c.deref-part-items.ensures.value) in
    subst (λ (ks : List History). AreCounts c.args.intervals.now (times_in ks) c.loop-part.counts.samples.items)
    (all_parts hs c.series.result n (c.series.ensures.count ∙ sym c.series.ensures.one_each) (omega (arith, same, c.part_count-parts.ensures, c.series.ensures.fits)))
    c.loop-part.invariant.samples

pub returns-clause-series : goal.returns-clause-series
returns-clause-series g c =
    let hs = c.args.head.now.content.histories in
    let told = λ (part : ℕ) (d : HeadCounts). AreHeadCounts c.args.intervals.now (part_at hs part) d in
    let many = as_many told 0 c.part_count-parts.result c.in_ok-each.each.items c.in_ok-each.ensures in
    let n = c.loop-part.part-index in
    let same : n ≡ c.part_count-parts.result = omega (arith, many, ap length c.deref-part-items.ensures.value) in
    subst (λ (ks : List History). AreCounts c.args.intervals.now (first_times_in ks) c.loop-part.counts.series.items)
    (all_parts hs c.series.result n (c.series.ensures.count ∙ sym c.series.ensures.one_each) (omega (arith, same, c.part_count-parts.ensures, c.series.ensures.fits)))
    c.loop-part.invariant.series
