use Rattle.std.proofs.Common.{take}
use Rattle.new_files.specs.Folders.{files_calls}
use Rattle.new_files.specs.Orders.{DidAll}
use Rattle.block_commands.specs.Folders.{chunk_paths}
use Rattle.block_commands.proofs.writing.write_chunk_files.Given as goal

-- the files so far are written
abbrev pub invariant-loop-place : goal.invariant-loop-place
invariant-loop-place g l = DidAll g.S.Store.did l.initial.store (files_calls (chunk_paths l.dir 1 (take l.place l.block.chunks))) l.store
