use Rattle.store.proofs.Zipped.{any_read}
use Rattle.store.proofs.disk.DiskStore.read_files.Goals as goal

pub returns-clause-files : goal.returns-clause-files
returns-clause-files g c = any_read c.read_several.result _ (λ files. files.items) c.args.paths.now c.read_several.ensures.files
