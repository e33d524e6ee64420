use Rattle.std.proofs.Common.{take}
use Rattle.block_files.specs.declared.encoding.Encoding.TheVariants.{Raw}
use Rattle.block_files.specs.Files.{texts}
use Rattle.block_files.proofs.RowLaws.{Rows}
use Rattle.block_files.proofs.files.write_chunks.Given as goal

abbrev pub invariant-loop-row : goal.invariant-loop-row
invariant-loop-row l = Rows Raw l.limit l.files (texts (take l.row-index l.rows)) l.found.items
