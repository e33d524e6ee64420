use Rattle.std.proofs.Common.{rules, ◌≡◌, ◌∙◌, of_z, to_z, w64}
use Rattle.std.proofs.lemmas.Int.{to_z-of_z}
use Rattle.hour_rows.proofs.SeenRows.{in_bounds}
use Rattle.hour_rows.proofs.seen.times_of.Goals as goal

pub returns : goal.returns
returns c = λ inner t is.
    let first : to_z w64 (of_z w64 c.first_of.result) ≡ c.first_of.result = search (rules, to_z-of_z) in
    let last : to_z w64 (of_z w64 c.last_of.result) ≡ c.last_of.result = search (rules, to_z-of_z) in
    in_bounds c.args.hour t _ _ (first ∙ c.first_of.ensures) (last ∙ c.last_of.ensures) is
