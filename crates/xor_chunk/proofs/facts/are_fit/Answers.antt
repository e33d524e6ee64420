use Rattle.std.proofs.Common.{arith, ◌≡◌, ◌<◌, ◌≤◌, ℕ, ap, subst, ⊎_elim, get_or, ◌∙◌}
use Rattle.std.specs.Prelude.{pos}
use Rattle.std.proofs.lemmas.Bool.{cases_lt}
use Rattle.std.proofs.lemmas.List.{get_or_default}
use Rattle.xor_chunk.specs.Samples.{IsFit}
use Rattle.xor_chunk.specs.declared.sample.Sample.{Sample}
use Rattle.xor_chunk.proofs.facts.are_fit.Goals as goal

pub loop-sample-preserved : goal.loop-sample-preserved
loop-sample-preserved c = λ k d less.
    let i : ℕ = c.loop-sample.sample-index in
    let none : Sample = record { time = pos 0; value = pos 0 } in
    ⊎_elim
    (λ (before : k < i). c.loop-sample.invariant k d before)
    (λ (after : i ≤ k).
    let here : i ≡ k = omega (arith, less, after) in
    subst IsFit (get_or_default c.args.samples.now i none d c.loop-sample-test.true ∙ ap (λ (j : ℕ). get_or c.args.samples.now j d) here) c.is_fit.ensures)
    (cases_lt k i)
