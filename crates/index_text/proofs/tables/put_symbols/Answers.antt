use Rattle.std.proofs.Common.{◌^◌, ◌≤◌, length, arith, rules}
use Rattle.std.proofs.lemmas.List.{length-map}
use Rattle.index_text.specs.Gives.{nows}
use Rattle.index_text.proofs.GroupLoops.{length-symbols_body}
use Rattle.index_text.proofs.tables.put_symbols.Goals as goal

pub returns-in_err-four_bytes_of-clause-large : goal.returns-in_err-four_bytes_of-clause-large
returns-in_err-four_bytes_of-clause-large c e =
    let many : 2 ^ 32 ≤ length c.args.symbols.now = search rules in
    omega (arith, many, length-symbols_body (nows c.args.symbols.now), length-map c.args.symbols.now (λ t. t.now))
