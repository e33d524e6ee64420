use Rattle.std.proofs.Common.{refl, rules}
use Rattle.store.specs.declared.store.StoreFault.TheVariants.{OutOfMemory}
use Rattle.store.proofs.Zipped.{stops_bad, stops_full}
use Rattle.store.proofs.several.all_read.Goals as goal

pub returns-in-Err-clause-place : goal.returns-in-Err-clause-place
returns-in-Err-clause-place c =
    stops_bad c.args.files.items c.loop-file.yielded c.next.new.self.rest.items c.loop-file.file-iterator.rest.items c.in-Some.file c.loop-file.read.items c.len-place.result c.loop-file.invariant.are c.loop-file.invariant.left (search rules) (search rules) c.in-Err.fault c.in-Err.is

pub returns-then-is_err-clause-place : goal.returns-then-is_err-clause-place
returns-then-is_err-clause-place c =
    stops_full c.args.files.items c.loop-file.yielded c.next.new.self.rest.items c.loop-file.file-iterator.rest.items c.in-Some.file c.loop-file.read.items c.len-place.result c.loop-file.invariant.are c.loop-file.invariant.left (search rules) (search rules) c.in-Ok.bytes OutOfMemory c.in-Ok.is refl
