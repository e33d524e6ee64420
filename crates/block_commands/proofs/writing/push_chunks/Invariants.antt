use Rattle.std.proofs.Common.{◌≡◌, ◌++◌, map, take}
use Rattle.new_files.specs.Folders.{file_at}
use Rattle.block_commands.specs.Folders.{chunk_paths}
use Rattle.block_commands.proofs.writing.push_chunks.Given as goal

abbrev pub invariant-loop-index : goal.invariant-loop-index
invariant-loop-index l = map file_at l.files.items ≡ map file_at l.initial.files.items ++ chunk_paths l.dir 1 (take l.index l.chunks)
