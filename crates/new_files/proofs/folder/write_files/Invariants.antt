use Rattle.std.proofs.Common.{map, take}
use Rattle.new_files.specs.Folders.{file_at, files_calls}
use Rattle.new_files.specs.Orders.{DidAll}
use Rattle.new_files.proofs.folder.write_files.Given as goal

abbrev pub invariant-loop-file : goal.invariant-loop-file
invariant-loop-file g l = DidAll g.S.Store.did l.initial.store (files_calls (map file_at (take l.file-index l.files))) l.store
