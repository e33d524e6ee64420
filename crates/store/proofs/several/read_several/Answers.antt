use Rattle.std.proofs.Common.{rules}
use Rattle.store.specs.Several.{Gave}
use Rattle.store.proofs.Zipped.{given_err, given_ok, written_whole}
use Rattle.store.proofs.several.read_several.Goals as goal

pub returns-clause-files : goal.returns-clause-files
returns-clause-files g c =
    given_ok (Gave (g.H.ReadFile.gave c.args.here.now) (g.T.ReadFile.gave c.args.there.now)) c.all_read.result c.args.paths.now _ (written_whole _ c.args.paths.now c.read_among.new.files c.in-Ok.files.items c.in-Ok.files.len (search rules) (search rules) c.read_among.ensures) c.all_read.ensures.files

pub returns-clause-refused : goal.returns-clause-refused
returns-clause-refused g c =
    given_err (Gave (g.H.ReadFile.gave c.args.here.now) (g.T.ReadFile.gave c.args.there.now)) c.all_read.result c.args.paths.now _ (written_whole _ c.args.paths.now c.read_among.new.files c.in-Ok.files.items c.in-Ok.files.len (search rules) (search rules) c.read_among.ensures) c.all_read.ensures.place
