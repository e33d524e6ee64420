use Rattle.std.proofs.Common.{◌≤◌, List, [], ◌∷◌, length, refl, All}
use Rattle.std.proofs.lemmas.List.Elements.{All-append, All-head, All-map, All-nil, All-tail}
use Rattle.head_column.specs.declared.chunk.Chunk.{Chunk}
use Rattle.hw_bytes.specs.Sums.{Text}
use Rattle.block_files.specs.Files.{AreShort, all_texts, longest_chunk, row_texts}
use Rattle.format_tests.proofs.files.write_all.Goals as goal

abbrev IsShort : Text → Type 0
IsShort body = length body ≤ longest_chunk

abbrev IsShortRow : List Chunk → Type 0
IsShortRow row = All (λ (c : Chunk). IsShort c.text) row

short : (rows : List (List Chunk)) → All IsShortRow rows → AreShort rows
short [] each = All-nil IsShort
short (row ∷ rows) each =
    All-append IsShort (row_texts row) (all_texts rows) (All-map IsShort (λ (c : Chunk). c.text) row (All-head IsShortRow row rows each)) (short rows (All-tail IsShortRow row rows each))

pub write_chunks-requires : goal.write_chunks-requires
write_chunks-requires c = record { short = short c.args.rows.now (c.if-not-are_short.ensures.0 refl) }
