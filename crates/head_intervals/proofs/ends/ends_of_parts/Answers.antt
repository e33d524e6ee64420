use Rattle.std.proofs.Common.{◌≡◌, ℕ, ◌+◌, ◌≤◌, ◌-◌, ◌/◌, ◌∙◌, ap, arith, subst, sym}
use Rattle.std.specs.List.{AllZip, range_with_len}
use Rattle.std.specs.Prelude.{ℤ, IfOk, Option}
use Rattle.rayon.specs.Numbers.{nat_range}
use Rattle.rayon.proofs.ListFacts.{IfOk-then}
use Rattle.rayon.proofs.ToStd.{nat_range-All}
use Rattle.head_intervals.specs.Intervals.{AreEnds}
use Rattle.head_intervals.specs.Parts.{part_at, part_length, times_in}
use Rattle.head_intervals.proofs.Parted.{at_ok, gathered, matched}
use Rattle.head_intervals.proofs.ends.ends_of_parts.Goals as goal

pub collect-requires-clause-ready : goal.collect-requires-clause-ready
collect-requires-clause-ready g c κs within =
    let ends = c.into_par_iter.ensures in
    let count = c.part_count.ensures in
    let inside = nat_range-All (λ i. i ≤ c.args.series / part_length) 0 c.part_count.result (λ i low high. omega (arith, count)) in
    rw (c.map.ensures.base, c.map.ensures.f, ends.0, ends.1) (λ k d lt. ((c.requires.sound, (c.requires.series, (c.requires.one_each, inside k d lt))), λ y p. tt))

pub returns : goal.returns
returns g c =
    let ends = c.into_par_iter.ensures in
    let start = ap (λ it. it.start) c.map.ensures.base ∙ ends.0 in
    let end = ap (λ it. it.end) c.map.ensures.base ∙ ends.1 in
    let whole : c.part_count.result - 0 ≡ c.args.series / part_length + 1 = omega (arith, c.part_count.ensures) in
    let told = λ (part : ℕ) (e : Option (ℤ × ℤ)). AreEnds (times_in (part_at c.args.head.now.content.histories part)) e in
    let all : IfOk c.collect.result (λ r. IfOk r (λ each. AllZip told (range_with_len 0 (c.args.series / part_length + 1)) each.items)) =
    IfOk-then c.collect.result _ _ c.collect.ensures (λ v h.
    let those = h.1.1 ∙ (λ i. nat_range (start i) (end i)) ∙ ap (range_with_len 0) whole in
    matched v _ _ _ h.2 (λ found made.
    let each = gathered (λ (part : ℕ) (e : Option (ℤ × ℤ)). AreEnds (times_in (part_at c.map.result.f.0.now.content.histories part)) e) h.1.0 h.0 made.0 h.1.2 made.1 in
    subst (AllZip told (range_with_len 0 (c.args.series / part_length + 1))) (sym made.2)
    (subst (λ xs. AllZip told xs made.0) those (subst (λ f. AllZip (λ (part : ℕ) (e : Option (ℤ × ℤ)). AreEnds (times_in (part_at f.0.now.content.histories part)) e) h.1.0 made.0) c.map.ensures.f each)))) in
    at_ok c.in_ok-collect.was _ all
