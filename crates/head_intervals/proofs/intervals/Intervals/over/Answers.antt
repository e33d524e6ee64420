use Rattle.std.proofs.Common.{◌∙◌, ap, ◌-ℤ◌, to_z, of_z, w64}
use Rattle.std.specs.Prelude.{ℤ}
use Rattle.std.specs.Int.RustNames.{unsigned_abs}
use Rattle.std.proofs.lemmas.Int.{to_z-of_z}
use Rattle.head_intervals.proofs.Placing.{parted}
use Rattle.head_intervals.proofs.intervals.Intervals.over.Goals as goal

pub returns : goal.returns
returns c =
    let first = to_z-of_z w64 c.args.first c.ranges.first in
    let last = to_z-of_z w64 c.args.last c.ranges.last in
    let reach = c.abs_diff-reach.ensures ∙ ap (λ (b : ℤ). unsigned_abs (b -ℤ to_z w64 (of_z w64 c.args.first))) last ∙ ap (λ (a : ℤ). unsigned_abs (c.args.last -ℤ a)) first in
    parted c.args.first c.args.last (to_z w64 (of_z w64 c.args.first)) c.abs_diff-reach.result c.width_of-width.result first c.requires reach c.width_of-width.ensures.some c.width_of-width.ensures.few
