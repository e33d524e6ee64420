use Rattle.std.proofs.Common.{rules, subst}
use Rattle.std.proofs.lemmas.Int.{to_z-of_z}
use Rattle.std.proofs.lemmas.Option.{slice_get_within}
use Rattle.write_commands.specs.RowParts.{ArePartsOf}
use Rattle.write_commands.proofs.RowLaws.{row_in}
use Rattle.write_commands.proofs.rows.read_row.Goals as goal

pub returns-clause-row : goal.returns-clause-row
returns-clause-row c =
    let parts = c.in-Some.parts in
    let placed = rw (c.in-Some-2.is) at c.in_ok-place.ensures.place in
    let are = subst (λ l. ArePartsOf c.args.floats l parts) c.in-Ok.ensures.cases.0 c.in-Some.ensures in
    row_in c.args.line.now parts c.place_of.new.first.items _ are placed (search (rules, to_z-of_z)) (search (rules, to_z-of_z))

pub returns-clause-within : goal.returns-clause-within
returns-clause-within c =
    let placed = rw (c.in-Some-2.is) at c.in_ok-place.ensures.place in
    slice_get_within c.place_of.new.first.items c.in-Some-2.place placed.raw placed.here
