use Rattle.std.proofs.Common.{◌≡◌, ◌∙◌, ℤ, subst, sym, w64}
use Rattle.std.specs.Prelude.{IsTrue}
use Rattle.std.proofs.lemmas.Int.{to_z-of_z}
use Rattle.head_column.specs.Hours.{HasTime, IsEdge, is_in_hour}
use Rattle.head_column.specs.Runs.{spans}
use Rattle.block_commands.proofs.cutting.times_for.Goals as goal

pub returns-in-Some : goal.returns-in-Some
returns-in-Some c =
    let hour : c.in-Some.hour ≡ c.args.hour = c.in-Some.ensures.some.0 ∙ to_z-of_z w64 c.args.hour c.ranges.hour in
    λ time. subst (λ (k : ℤ). (IsEdge k → ⊥) → (t : ℤ) → IsTrue (is_in_hour k t) → IsTrue (spans c.times_of.result t)) hour c.times_of.ensures

pub returns-in-None : goal.returns-in-None
returns-in-None c = λ time. absurd (c.in-None.ensures.none (subst HasTime (sym (to_z-of_z w64 c.args.hour c.ranges.hour)) time))
