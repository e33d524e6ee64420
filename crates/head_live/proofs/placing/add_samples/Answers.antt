use Rattle.std.proofs.Common.{◌≡◌, ◌∙◌, ◌∷◌, ◌++◌, ◌-◌, [], List, ap, drop, get_or, length, of_z, rules, take, to_z, w64}
use Rattle.std.proofs.lemmas.Int.{to_z-of_z}
use Rattle.std.specs.Prelude.{ℤ, pos}
use Rattle.head_column.specs.Samples.{Sample}
use Rattle.head_live.specs.declared.placed.PlacedSample.{PlacedSample}
use Rattle.head_live.specs.Placed.{placed}
use Rattle.head_live.proofs.MappedLemmas.{mapped_at}
use Rattle.head_live.proofs.CloseLemmas.{pushed_more}
use Rattle.head_live.proofs.placing.add_samples.Goals as goal

pub loop-sample-preserved : goal.loop-sample-preserved
loop-sample-preserved c =
    let i = c.loop-sample.sample-index in
    let all = c.loop-sample.all.items in
    let xs : List Sample = take (length c.deref.result.now - c.min.result) (drop c.min.result c.deref.result.now) in
    let x : Sample = get_or xs i (record { time = pos 0; value = pos 0 }) in
    let time : to_z w64 (of_z w64 x.time) ≡ x.time = search (rules, to_z-of_z) in
    let value : to_z w64 (of_z w64 x.value) ≡ x.value = search (rules, to_z-of_z) in
    let with_one : ℤ → ℤ → List PlacedSample = λ t v. all ++ record { slot = c.args.slot; time = t; value = v } ∷ [] in
    let pushed : c.push.new.self.items ≡ with_one x.time x.value = c.in_ok-push.ensures.items ∙ (ap (λ t. with_one t (to_z w64 (of_z w64 x.value))) time ∙ ap (with_one x.time) value) in
    pushed_more c.push.new.self.items all (placed c.args.slot x) _ _ _ pushed c.loop-sample.invariant (mapped_at (placed c.args.slot) xs i (record { time = pos 0; value = pos 0 }) c.loop-sample-test.true)
