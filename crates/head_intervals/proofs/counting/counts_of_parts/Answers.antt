use Rattle.std.proofs.Common.{◌≡◌, ℕ, ◌≤◌, ◌-◌, ◌/◌, ◌∙◌, length, ap, arith, subst, sym}
use Rattle.std.specs.List.{AllZip, range_with_len}
use Rattle.std.specs.Prelude.{IfOk}
use Rattle.rayon.specs.Numbers.{nat_range}
use Rattle.rayon.proofs.ListFacts.{IfOk-then}
use Rattle.rayon.proofs.ToStd.{nat_range-All}
use Rattle.head_intervals.specs.declared.counting.HeadCounts.{HeadCounts}
use Rattle.head_intervals.specs.Parts.{AreHeadCounts, part_at, part_length}
use Rattle.head_intervals.proofs.Parted.{at_ok, gathered, matched}
use Rattle.head_intervals.proofs.counting.counts_of_parts.Goals as goal

pub collect-requires-clause-ready : goal.collect-requires-clause-ready
collect-requires-clause-ready g c κs within =
    let ends = c.into_par_iter.ensures in
    let inside = nat_range-All (λ i. i ≤ length c.args.head.now.content.table.series / part_length) 0 c.args.parts (λ i low high. omega (arith, c.requires.parts)) in
    rw (c.map.ensures.base, c.map.ensures.f, ends.0, ends.1) (λ k d lt. ((c.requires.sound, (inside k d lt, (c.requires.wide, c.requires.few))), λ y p. tt))

pub returns : goal.returns
returns g c =
    let ends = c.into_par_iter.ensures in
    let start = ap (λ it. it.start) c.map.ensures.base ∙ ends.0 in
    let end = ap (λ it. it.end) c.map.ensures.base ∙ ends.1 in
    let whole : c.args.parts - 0 ≡ c.args.parts = omega arith in
    let told = λ (part : ℕ) (d : HeadCounts). AreHeadCounts c.args.intervals.now (part_at c.args.head.now.content.histories part) d in
    let all : IfOk c.collect.result (λ r. IfOk r (λ counts. AllZip told (range_with_len 0 c.args.parts) counts.items)) =
    IfOk-then c.collect.result _ _ c.collect.ensures (λ v h.
    let those = h.1.1 ∙ (λ i. nat_range (start i) (end i)) ∙ ap (range_with_len 0) whole in
    matched v _ _ _ h.2 (λ counts made.
    let each = gathered (λ (part : ℕ) (d : HeadCounts). AreHeadCounts c.map.result.f.2.now (part_at c.map.result.f.1.now.content.histories part) d) h.1.0 h.0 made.0 h.1.2 made.1 in
    subst (AllZip told (range_with_len 0 c.args.parts)) (sym made.2)
    (subst (λ xs. AllZip told xs made.0) those (subst (λ f. AllZip (λ (part : ℕ) (d : HeadCounts). AreHeadCounts f.2.now (part_at f.1.now.content.histories part) d) h.1.0 made.0) c.map.ensures.f each)))) in
    at_ok c.in_ok-collect.was _ all
