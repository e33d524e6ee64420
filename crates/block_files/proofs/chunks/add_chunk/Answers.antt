use Rattle.std.proofs.Common.{sym, ap, ◌∙◌, arith, List}
use Rattle.hw_bytes.specs.Sums.{Text}
use Rattle.block_files.specs.Files.{last_reference}
use Rattle.block_files.proofs.FileLaws.{last_reference_is}
use Rattle.block_files.proofs.chunks.add_chunk.Goals as goal

pub returns-clause-reference : goal.returns-clause-reference
returns-clause-reference c =
    let placed = c.in_ok-make_room.ensures.placed c.args.data.now (sym c.chunk_len.ensures) in
    let is = ap (λ (fs : List Text). last_reference c.args.encoding fs c.args.data.now) placed ∙ last_reference_is c.args.encoding c.make_room.new.full.items c.make_room.new.last.items c.args.data.now in
    omega (arith, is, c.len-file.ensures, c.len-offset.ensures)
