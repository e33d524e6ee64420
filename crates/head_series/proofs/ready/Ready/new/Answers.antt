use Rattle.std.proofs.Common.{◌≡◌, ◌+◌, ◌-◌, ◌∷◌, ap, sym, ◌∙◌, arith, length, drop}
use Rattle.std.specs.Prelude.{map, reverse}
use Rattle.std.proofs.lemmas.List.{length-append}
use Rattle.head_series.specs.Rows.{label}
use Rattle.head_series.proofs.PutLemmas.{reversed-push, drop_one}
use Rattle.head_series.proofs.ready.Ready.new.Goals as goal

pub loop-left-preserved : goal.loop-left-preserved
loop-left-preserved c =
    let p = label c.pair.result.0.now c.pair.result.1.now in
    let name = c.in_ok-name.name in
    let value = c.in_ok-value.value in
    let rest = reverse (map (λ p. label p.0.items p.1.items) c.loop-left.texts.items) in
    let more = simp length-append at (ap length c.in_ok-push.ensures.items) in
    let back : c.loop-left.left ≡ c.loop-left.left - 1 + 1 = omega (arith, c.loop-left-test.true) in (
      ap (λ xs. reverse (map (λ p. label p.0.items p.1.items) xs)) c.in_ok-push.ensures.items
          ∙ reversed-push (λ p. label p.0.items p.1.items) c.loop-left.texts.items (name, value)
          ∙ ap (λ z. label z value.items ∷ rest) c.in_ok-name.ensures.items
          ∙ ap (λ z. label c.pair.result.0.now z ∷ rest) c.in_ok-value.ensures.items
          ∙ ap (λ z. p ∷ z) (c.loop-left.invariant.0 ∙ ap (λ n. drop n c.args.labels.now) back)
          ∙ sym (drop_one c.args.labels.now (c.loop-left.left - 1) p c.pair.ensures),
      omega (arith, more, c.loop-left.invariant.1, c.loop-left-test.true),
    )
