use Rattle.std.proofs.Common.{arith, length, ◌<◌}
use Rattle.rescue_commands.proofs.SameFiles.{one_more_same}
use Rattle.rescue_commands.proofs.cutting.are_same.Goals as goal

pub loop-place-preserved : goal.loop-place-preserved
loop-place-preserved c =
    let i = c.loop-place.place in
    let there : i < length c.args.others.now = omega arith in
    one_more_same c.args.files.now c.args.others.now i c.index-files-place.result c.index-others-place.result c.loop-place-test.true there c.index-files-place.is c.index-others-place.is (c.is_same_file.ensures c.if-not-is_same_file.false) c.loop-place.invariant
