use Rattle.std.proofs.Common.{◌≡◌, List, take}
use Rattle.head_column.specs.Samples.{Sample}
use Rattle.block_read.specs.Blocks.{HasSamples}
use Rattle.block_read.proofs.AllRows.{SoFar}
use Rattle.block_read.proofs.samples.read_samples.Given as goal

abbrev pub invariant-loop-row : goal.invariant-loop-row
invariant-loop-row l = SoFar l.encoding l.rows l.again l.samples.items l.row-index × ((all : List (List Sample)) → HasSamples l.encoding l.files l.rows all → l.samples.items ≡ take l.row-index all)
