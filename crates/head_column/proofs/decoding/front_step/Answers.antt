use Rattle.std.specs.Prelude.{◌+ℤ◌, pos}
use Rattle.std.specs.Int.{w64}
use Rattle.std.proofs.Common.{subst}
use Rattle.std.specs.Prelude.{ℤ, FitsSigned}
use Rattle.std.proofs.lemmas.Int.{to_z-of_z}
use Rattle.hw_bytes.proofs.Codes.{at_none}
use Rattle.head_column.specs.Reading.{IsStep}
use Rattle.head_column.proofs.SampleCodes.{step_zero, step_far}
use Rattle.head_column.proofs.decoding.front_step.Goals as goal

pub returns-then-step-eq0-clause-none : goal.returns-then-step-eq0-clause-none
returns-then-step-eq0-clause-none c = step_zero c.args.before c.args.bytes.now c.in_ok-step.step c.in_ok-step.len c.in_ok-step.ensures.found c.if-step-eq0.true

pub returns-in_err-time-clause-none : goal.returns-in_err-time-clause-none
returns-in_err-time-clause-none c =
    let far = subst (λ (z : ℤ). FitsSigned w64 (z +ℤ pos c.in_ok-step.step) → ⊥) (to_z-of_z w64 c.args.before c.ranges.before) c.in_err-time.ensures in
    at_none (IsStep c.args.before) c.args.bytes.now c.from_residual-in_err-time.result (λ _. step_far c.args.before c.args.bytes.now c.in_ok-step.step c.in_ok-step.len c.in_ok-step.ensures.found far)
