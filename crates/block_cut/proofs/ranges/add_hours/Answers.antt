use Rattle.std.proofs.Common.{List, subst}
use Rattle.std.proofs.lemmas.List.{take_all}
use Rattle.head_column.specs.Samples.{Sample}
use Rattle.block_cut.proofs.Found.{AreFound, found_none, found_one}
use Rattle.block_cut.proofs.Written.{unless}
use Rattle.block_cut.proofs.ranges.add_hours.Goals as goal
use Rattle.block_cut.proofs.ranges.add_hours.Goals.{then-not-is_edge+in_ok-push_new, else-not-is_edge}

pub loop-sample-preserved : goal.loop-sample-preserved
loop-sample-preserved c = elim c.if-not-is_edge.branch [
  | then-not-is_edge+in_ok-push_new w ↦ rw w.hours-is (found_one c.args.hours.now.items c.loop-sample.hours.items w.push_new.new.hours.items c.args.samples.now c.loop-sample.sample-index _ c.hour_of-hour.result c.loop-sample-test.true c.hour_of-hour.ensures (unless c.is_edge.result w.if-not-is_edge.true c.is_edge.ensures.1) c.loop-sample.invariant w.in_ok-push_new.ensures)
  | else-not-is_edge w ↦ rw w.hours-is (found_none c.args.hours.now.items c.loop-sample.hours.items c.args.samples.now c.loop-sample.sample-index _ c.hour_of-hour.result c.loop-sample-test.true c.hour_of-hour.ensures (c.is_edge.ensures.0 w.if-not-is_edge.false) c.loop-sample.invariant)
]

pub returns : goal.returns
returns c =
    subst (λ (xs : List Sample). AreFound c.args.hours.now.items c.loop-sample.hours.items xs) (take_all c.loop-sample.sample-index c.args.samples.now c.loop-sample-test.false) c.loop-sample.invariant
