use Rattle.std.proofs.Common.{◌≡◌, ◌∙◌, ap, sym}
use Rattle.head_column.specs.Chunks.{chunk_text}
use Rattle.head_column.proofs.ReadLaws.{one_text}
use Rattle.block_files.specs.declared.encoding.Encoding.{Encoding}
use Rattle.block_read.specs.Blocks.{data_in}
use Rattle.block_read.proofs.chunks.decode.Goals as goal

pub returns-in_ok-decode_chunk-in-Raw-clause-only :
    goal.returns-in_ok-decode_chunk-in-Raw-clause-only
returns-in_ok-decode_chunk-in-Raw-clause-only c = λ part h is.
    let raw : c.args.data.now ≡ chunk_text part = is ∙ ap (λ (e : Encoding). data_in e part) c.in-Raw.is in
    let found = c.in_ok-decode_chunk-in-Raw.ensures.found in
    one_text c.in_ok-decode_chunk-in-Raw.field-0.items part found.0 h (sym found.1 ∙ raw)
