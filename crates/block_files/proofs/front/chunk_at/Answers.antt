use Rattle.std.proofs.Common.{◌≡◌, ◌∙◌, Some, ap, sym, ◌/◌, ◌^◌}
use Rattle.std.specs.List.{slice_get}
use Rattle.std.proofs.lemmas.Option.{slice_get-get_or}
use Rattle.block_files.proofs.Elements.{if_none_then, none_at}
use Rattle.block_files.proofs.front.chunk_at.Goals as goal

pub returns-clause-none : goal.returns-clause-none
returns-clause-none c =
    let found : slice_get c.args.files.now (c.args.reference / 2 ^ 32) ≡ Some c.in_ok-get.field-0.now = slice_get-get_or c.args.files.now (c.args.reference / 2 ^ 32) c.in_ok-get.field-0.now c.in_ok-get.ensures.lookup.3.0 ∙ ap Some (sym c.in_ok-get.ensures.lookup.1) in
    if_none_then c.front_chunk.result c.front_chunk.ensures.none
    (none_at c.args.files.now c.args.reference c.min-offset.result c.as_slice-file.result.now c.split_at.result.1.now (found ∙ ap Some (sym c.as_slice-file.ensures)) c.min-offset.ensures c.split_at.ensures.back)
