use Rattle.std.proofs.Common.{arith, rules}
use Rattle.store.proofs.Zipped.{zipped_place}
use Rattle.store.proofs.several.read_in_turn.Goals as goal

pub loop-place-preserved : goal.loop-place-preserved
loop-place-preserved g c = zipped_place _ c.args.paths.now c.loop-place.files c.loop-place.place c.index-paths-place.result c.read_file.result c.loop-place-test.true (omega arith) c.loop-place.invariant (search rules)
