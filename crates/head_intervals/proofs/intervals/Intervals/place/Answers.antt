use Rattle.std.proofs.Common.{◌∙◌, FitsSigned, ap, of_z, rules, sym, to_z, w64}
use Rattle.std.specs.Prelude.{ℤ, ◌-ℤ◌, int_lt}
use Rattle.std.specs.Int.RustNames.{unsigned_abs}
use Rattle.std.proofs.lemmas.Int.{to_z-of_z}
use Rattle.head_intervals.proofs.Placing.{behind}
use Rattle.head_intervals.proofs.intervals.Intervals.place.Goals as goal

pub returns-else-place-self-clause-none : goal.returns-else-place-self-clause-none
returns-else-place-self-clause-none c = λ k lt has.
    let i = c.args.self.now in
    let fits : FitsSigned w64 i.first = search rules in
    let time = to_z-of_z w64 c.args.time c.ranges.time in
    let first = to_z-of_z w64 i.first fits in
    let distance = c.abs_diff.ensures ∙ ap (λ (a : ℤ). unsigned_abs (a -ℤ to_z w64 (of_z w64 i.first))) time ∙ ap (λ (a : ℤ). unsigned_abs (c.args.time -ℤ a)) first in
    let from = sym (ap (λ (a : ℤ). int_lt a (to_z w64 (of_z w64 i.first))) time ∙ ap (int_lt c.args.time) first) ∙ c.if-time-self.false in
    behind i c.args.time c.abs_diff.result k c.requires distance from c.if-place-self.false lt has
