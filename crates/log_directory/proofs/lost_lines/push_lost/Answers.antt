use Rattle.log_directory.proofs.LinesOfLost.{part_line}
use Rattle.log_directory.proofs.lost_lines.push_lost.Goals as goal

pub loop-part-preserved : goal.loop-part-preserved
loop-part-preserved c =
    let front = c.loop-part.invariant in
    let line = c.in_ok-push_line.ensures in
    part_line c.args.in_checkpoint c.args.number c.args.parts.now c.loop-part.part-index _ _ _ _ front.0 line.0 c.loop-part-test.true front.1 front.2 line.1
