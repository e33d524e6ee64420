use Rattle.std.proofs.Common.{take}
use Rattle.block_files.specs.Files.{row_texts}
use Rattle.block_files.proofs.RowLaws.{Added}
use Rattle.block_files.proofs.files.ChunkFiles.add_row.Given as goal

abbrev pub invariant-loop-chunk : goal.invariant-loop-chunk
invariant-loop-chunk l = Added l.initial.self l.self (row_texts (take l.chunk-index l.row)) l.found.items
