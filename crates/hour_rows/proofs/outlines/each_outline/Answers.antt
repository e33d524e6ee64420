use Rattle.std.proofs.Common.{◌≡◌, ℕ, ◌<◌, ◌-◌, ◌∙◌, All, length, map, ap, arith, subst}
use Rattle.std.specs.List.{range_with_len}
use Rattle.std.specs.Prelude.{IfOk}
use Rattle.rayon.specs.Numbers.{nat_range}
use Rattle.rayon.proofs.ListFacts.{IfOk-then}
use Rattle.rayon.proofs.ToStd.{nat_range-All}
use Rattle.head_core.specs.Heads.{history_at}
use Rattle.hour_rows.specs.Outlined.{IsHistory, outline_at}
use Rattle.hour_rows.proofs.Gathered.{all_held, at_ok, gathered, matched}
use Rattle.hour_rows.proofs.outlines.each_outline.Goals as goal

pub collect-requires-clause-ready : goal.collect-requires-clause-ready
collect-requires-clause-ready g c κs within =
    let ends = c.into_par_iter.ensures in
    let inside = nat_range-All (λ i. i < length c.args.head.now.content.table.series) 0 c.args.series (λ i low high. omega (arith, c.requires.series)) in
    rw (c.map.ensures.base, c.map.ensures.f, ends.0, ends.1) (λ k d lt. ((c.requires.sound, (inside k d lt, c.requires.whole)), λ y p. tt))

pub returns-clause-outlines : goal.returns-clause-outlines
returns-clause-outlines g c =
    let ends = c.into_par_iter.ensures in
    let start = ap (λ it. it.start) c.map.ensures.base ∙ ends.0 in
    let end = ap (λ it. it.end) c.map.ensures.base ∙ ends.1 in
    let whole : c.args.series - 0 ≡ c.args.series = omega arith in
    let outline = outline_at c.args.encoding c.args.hour c.args.head.now.content in
    let all : IfOk c.collect.result (λ r. IfOk r (λ outlines. outlines.items ≡ map outline (range_with_len 0 c.args.series))) =
    IfOk-then c.collect.result _ _ c.collect.ensures (λ v h.
    let those = h.1.1 ∙ (λ i. nat_range (start i) (end i)) ∙ ap (range_with_len 0) whole in
    matched v _ _ _ h.2 (λ outlines made.
    made.2 ∙ gathered (outline_at c.map.result.f.3.now c.map.result.f.2.now c.map.result.f.1.now.content) (λ slot. IsHistory (history_at c.map.result.f.1.now.content slot)) h.1.0 h.0 made.0 h.1.2 made.1
    ∙ ap (λ f. map (outline_at f.3.now f.2.now f.1.now.content) h.1.0) c.map.ensures.f ∙ ap (map outline) those)) in
    at_ok c.in_ok-collect.was _ all

pub returns-clause-held : goal.returns-clause-held
returns-clause-held g c =
    let ends = c.into_par_iter.ensures in
    let start = ap (λ it. it.start) c.map.ensures.base ∙ ends.0 in
    let end = ap (λ it. it.end) c.map.ensures.base ∙ ends.1 in
    let whole : c.args.series - 0 ≡ c.args.series = omega arith in
    let held = λ (slot : ℕ). IsHistory (history_at c.args.head.now.content slot) in
    let all : IfOk c.collect.result (λ r. IfOk r (λ _. All held (range_with_len 0 c.args.series))) =
    IfOk-then c.collect.result _ _ c.collect.ensures (λ v h.
    let those = h.1.1 ∙ (λ i. nat_range (start i) (end i)) ∙ ap (range_with_len 0) whole in
    matched v _ _ _ h.2 (λ outlines made.
    let each = all_held (outline_at c.map.result.f.3.now c.map.result.f.2.now c.map.result.f.1.now.content) (λ slot. IsHistory (history_at c.map.result.f.1.now.content slot)) h.1.0 h.0 made.0 h.1.2 made.1 in
    subst (All held) those (subst (λ f. All (λ slot. IsHistory (history_at f.1.now.content slot)) h.1.0) c.map.ensures.f each))) in
    at_ok c.in_ok-collect.was _ all
