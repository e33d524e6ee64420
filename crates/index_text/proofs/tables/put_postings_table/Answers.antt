use Rattle.std.proofs.Common.{◌^◌, ◌≤◌, length, map, arith, rules}
use Rattle.std.proofs.lemmas.List.{length-map}
use Rattle.index_text.specs.Lent.{label_place_of}
use Rattle.index_text.proofs.GroupLoops.{length-postings_table_body}
use Rattle.index_text.proofs.tables.put_postings_table.Goals as goal

pub returns-in_err-four_bytes_of-clause-large : goal.returns-in_err-four_bytes_of-clause-large
returns-in_err-four_bytes_of-clause-large c e =
    let many : 2 ^ 32 ≤ length c.args.entries.now = search rules in
    omega (arith, many, length-postings_table_body (map label_place_of c.args.entries.now), length-map c.args.entries.now label_place_of)
