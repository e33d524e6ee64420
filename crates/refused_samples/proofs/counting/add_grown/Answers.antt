use Rattle.std.proofs.Common.{◌++◌, ◌∷◌, ◌∙◌, [], List, ap, subst, sym, w64}
use Rattle.std.specs.Prelude.{ℤ, OnOk}
use Rattle.std.proofs.lemmas.Int.{to_z-of_z}
use Rattle.head_intervals.specs.Intervals.{AreCounts}
use Rattle.refused_samples.proofs.Replayed.{other_grown}
use Rattle.refused_samples.proofs.counting.add_grown.Goals as goal

pub returns : goal.returns
returns c = λ times are.
    let is = ap (λ (t : ℤ). times ++ t ∷ []) (to_z-of_z w64 c.args.time c.ranges.time) ∙ sym (other_grown c.args.before c.args.after c.args.time times c.if-before-after.false) in
    subst (λ (ts : List ℤ). OnOk c.add_time.result (AreCounts c.args.intervals.now ts c.add_time.new.counts.items)) is (c.add_time.ensures times are)
