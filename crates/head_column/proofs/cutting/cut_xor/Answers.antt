use Rattle.std.proofs.Common.{◌∙◌, refl, sym}
use Rattle.std.specs.Int.{w64}
use Rattle.std.proofs.lemmas.Int.{to_z-of_z}
use Rattle.head_column.proofs.Copied.{chunk_same}
use Rattle.head_column.proofs.Windows.{first_is, last_is}
use Rattle.head_column.proofs.cutting.cut_xor.Goals as goal

pub returns : goal.returns
returns c =
    let first = to_z-of_z w64 c.time_of.result (record { sfits = c.time_of.type_inv }) ∙ c.time_of.ensures in
    let last = to_z-of_z w64 c.time_of-2.result (record { sfits = c.time_of-2.type_inv }) ∙ c.time_of-2.ensures in
    chunk_same _ _ _ _ _ _ _ _ (first ∙ sym (first_is c.args.samples.now _ c.requires.some)) (last ∙ sym (last_is c.args.samples.now _ c.requires.some)) refl (c.from_vec.ensures ∙ c.in_ok-text.ensures)
