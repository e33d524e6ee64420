use Rattle.std.proofs.Common.{◌≡◌, ◌+◌, ◌*◌, ◌/◌, ◌++◌, ◌∙◌, ℕ, List, ap, arith, get_or, length, subst, sym, take}
use Rattle.std.specs.Prelude.{ℤ, Option, None}
use Rattle.std.proofs.lemmas.List.{get_or_default}
use Rattle.head_column.specs.Histories.{History}
use Rattle.head_intervals.specs.Intervals.{AreEnds}
use Rattle.head_intervals.specs.Parts.{part_at, part_length, times_in}
use Rattle.head_intervals.proofs.Parted.{all_parts, as_many, part_more, times_append, told_at}
use Rattle.head_intervals.proofs.ends.ends_of.Goals as goal

pub loop-part-preserved : goal.loop-part-preserved
loop-part-preserved g c =
    let hs = c.args.head.now.content.histories in
    let told = λ (part : ℕ) (e : Option (ℤ × ℤ)). AreEnds (times_in (part_at hs part)) e in
    let n = c.loop-part.part-index in
    let items = c.deref-part-items.result.now in
    let these = told_at told (c.series-series.result / part_length + 1) c.in_ok-each.each.items items n (get_or items n None) c.in_ok-each.ensures c.deref-part-items.ensures.value c.loop-part-test.true (get_or_default items n None (get_or items n None) c.loop-part-test.true) in
    let all : AreEnds (times_in (take (n * part_length) hs) ++ times_in (part_at hs n)) c.joined-ends.result = c.joined-ends.ensures (times_in (take (n * part_length) hs)) (times_in (part_at hs n)) c.loop-part.invariant these in
    subst (λ (ts : List ℤ). AreEnds ts c.joined-ends.result) (sym (times_append (take (n * part_length) hs) (part_at hs n)) ∙ ap times_in (sym (part_more hs n))) all

pub returns : goal.returns
returns g c =
    let hs = c.args.head.now.content.histories in
    let told = λ (part : ℕ) (e : Option (ℤ × ℤ)). AreEnds (times_in (part_at hs part)) e in
    let many = as_many told 0 (c.series-series.result / part_length + 1) c.in_ok-each.each.items c.in_ok-each.ensures in
    let n = c.loop-part.part-index in
    let same : n ≡ (c.series-series.result / part_length + 1) = omega (arith, many, ap length c.deref-part-items.ensures.value) in
    subst (λ (ks : List History). AreEnds (times_in ks) c.loop-part.ends)
    (all_parts hs c.series-series.result n (c.series-series.ensures.count ∙ sym c.series-series.ensures.one_each) (omega (arith, same)))
    c.loop-part.invariant
