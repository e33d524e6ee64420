use Rattle.std.proofs.Common.{List, drop}
use Rattle.head_column.specs.Samples.{Sample}
use Rattle.head_column.specs.Chunks.{chunk_samples, parts}
use Rattle.block_read.specs.Blocks.{IsColumn}
use Rattle.block_read.specs.Reading.{AreThere}
use Rattle.block_read.proofs.Columns.{Left, Read}
use Rattle.block_read.proofs.chunks.read_row.Given as goal

abbrev pub invariant-loop-meta : goal.invariant-loop-meta
invariant-loop-meta l = Read l.encoding l.samples.items l.chunks.items
    × ((all : List Sample) → IsColumn all → AreThere l.encoding l.files l.metas (parts chunk_samples all) → Left l.encoding l.files (drop l.meta-index l.metas) l.samples.items all)
