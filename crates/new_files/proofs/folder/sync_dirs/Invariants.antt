use Rattle.std.proofs.Common.{map, string_bytes, take}
use Rattle.new_files.specs.Folders.{sync_dirs as dirs_synced}
use Rattle.new_files.specs.Orders.{DidAll}
use Rattle.new_files.proofs.folder.sync_dirs.Given as goal

abbrev pub invariant-loop-dir : goal.invariant-loop-dir
invariant-loop-dir g l = DidAll g.S.Store.did l.initial.store (dirs_synced (map string_bytes (take l.dir-index l.dirs))) l.store
