use Rattle.std.proofs.Common.{◌≡◌, List, take}
use Rattle.std.specs.Prelude.{map}
use Rattle.hw_bytes.specs.Sums.{Text}
use Rattle.head_column.specs.declared.chunk.Chunk.{Chunk}
use Rattle.block_files.specs.Places.{span_of}
use Rattle.block_files.specs.Layouts.{Stands}
use Rattle.block_files.proofs.RowLaws.{flat}
use Rattle.block_files.proofs.LayoutLaws.{RowStands}
use Rattle.block_files.proofs.places.Placing.place_row.Given as goal

abbrev pub invariant-loop-span : goal.invariant-loop-span
invariant-loop-span l = (before : List (List Text)) (chunks : List Chunk) → map span_of chunks ≡ l.row → Stands l.encoding l.limit (flat before) l.initial.self → RowStands l.encoding l.limit before (take l.span-index chunks) l.self l.found.items
