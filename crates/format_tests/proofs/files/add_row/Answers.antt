use Rattle.std.proofs.Common.{◌≤◌, length, refl}
use Rattle.std.proofs.lemmas.List.Elements.{All-map}
use Rattle.head_column.specs.declared.chunk.Chunk.{Chunk}
use Rattle.hw_bytes.specs.Sums.{Text}
use Rattle.block_files.specs.Files.{longest_chunk}
use Rattle.format_tests.proofs.files.add_row.Goals as goal

abbrev IsShort : Text → Type 0
IsShort body = length body ≤ longest_chunk

pub add_row-requires : goal.add_row-requires
add_row-requires c = record { short = All-map IsShort (λ (d : Chunk). d.text) c.args.row.now (c.if-not-is_short.ensures.0 refl) }
