use Rattle.std.specs.Prelude.{map, string_bytes}
use Rattle.std.proofs.Common.{ap, refl, take, true}
use Rattle.command_tests.specs.Listings.{file_of}
use Rattle.command_tests.proofs.Listings.{next_listed, none_listed}
use Rattle.command_tests.proofs.listing.names_in.Goals as goal

pub loop-file-init : goal.loop-file-init
loop-file-init c = none_listed c.args.start.now _ (ap (map string_bytes) c.new-names.ensures.items)

pub loop-file-preserved : goal.loop-file-preserved
loop-file-preserved c = next_listed c.args.files.now c.loop-file.file-index c.file-item.result c.args.start.now _ c.deref.result.now c.loop-file-test.true c.file-item.is c.deref.ensures
    (c.in_ok-add_name.ensures (refl {a = true}) (map file_of (take c.loop-file.file-index c.args.files.now)) c.file-item.result.bytes.items c.loop-file.invariant)
