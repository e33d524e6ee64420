use Rattle.std.proofs.Common.{◌∙◌}
use Rattle.std.specs.Prelude.{string_bytes}
use Rattle.block_files.proofs.MetaLaws.{five_joined, meta_joined}
use Rattle.block_files.proofs.meta.write_meta.Goals as goal

pub returns : goal.returns
returns c =
    five_joined _ _ _ _ _ _ _ _ _ _ _ c.new-text.ensures.items c.in_ok-extend_from_slice.ensures.items c.in_ok-extend_from_slice-2.ensures.items c.in_ok-extend_from_slice-3.ensures.items c.in_ok-extend_from_slice-4.ensures.items c.in_ok-extend_from_slice-5.ensures.items
    ∙ rw (c.as_bytes.ensures.digits, c.as_bytes-2.ensures.value, c.as_bytes-3.ensures.digits) (meta_joined c.args.meta.now (string_bytes c.in_ok-numbers.numbers) c.in_ok-numbers.ensures)
