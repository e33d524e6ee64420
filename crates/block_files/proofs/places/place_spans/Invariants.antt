use Rattle.std.proofs.Common.{◌≡◌, List, take}
use Rattle.std.specs.Prelude.{map}
use Rattle.head_column.specs.declared.chunk.Chunk.{Chunk}
use Rattle.block_files.specs.Places.{span_of}
use Rattle.block_files.proofs.LayoutLaws.{RowsStand}
use Rattle.block_files.proofs.places.place_spans.Given as goal

abbrev pub invariant-loop-row : goal.invariant-loop-row
invariant-loop-row l = (chunks : List (List Chunk)) → map (map span_of) chunks ≡ l.rows → RowsStand l.encoding l.limit (take l.row-index chunks) l.placing l.found.items
