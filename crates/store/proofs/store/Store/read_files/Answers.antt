use Rattle.std.proofs.Common.{rules}
use Rattle.store.proofs.Reading.{next_zipped}
use Rattle.store.proofs.store.Store.read_files.Goals as goal

pub loop-place-preserved : goal.loop-place-preserved
loop-place-preserved g c = next_zipped _ c.args.paths.now c.loop-place.place c.index-paths-place.result c.loop-place.files.items c.push.new.self.items c.in-Ok.bytes c.loop-place-test.true (search rules) c.loop-place.invariant (search rules)
