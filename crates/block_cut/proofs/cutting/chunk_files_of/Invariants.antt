use Rattle.std.proofs.Common.{◌≡◌, map, take}
use Rattle.block_files.specs.Places.{file_at}
use Rattle.block_cut.specs.Plans.{data_of}
use Rattle.block_cut.proofs.cutting.chunk_files_of.Given as goal

abbrev pub invariant-loop-file : goal.invariant-loop-file
invariant-loop-file l = l.files.items ≡ map (file_at l.encoding (data_of l.encoding l.hour l.head.content l.plan.series)) (take l.file-index l.plan.files)
