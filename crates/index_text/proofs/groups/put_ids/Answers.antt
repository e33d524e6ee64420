use Rattle.std.proofs.Common.{◌^◌, ◌≤◌, length, arith, rules}
use Rattle.index_text.proofs.GroupLoops.{length-postings_body}
use Rattle.index_text.proofs.groups.put_ids.Goals as goal

pub returns-in_err-four_bytes_of-clause-large : goal.returns-in_err-four_bytes_of-clause-large
returns-in_err-four_bytes_of-clause-large c e =
    let many : 2 ^ 32 ≤ length c.args.ids.now = search rules in
    omega (arith, many, length-postings_body c.args.ids.now)
