use Rattle.std.proofs.Common.{rules, ◌<◌, length, get_or}
use Rattle.hw_bytes.proofs.Groups.{uvarint_at-one}
use Rattle.hw_bytes.proofs.numbers.front_uvarint.Goals as goal

pub returns-then-bytes-lt128-clause-exact : goal.returns-then-bytes-lt128-clause-exact
returns-then-bytes-lt128-clause-exact c =
    let some : 0 < length c.args.bytes.now = search rules in
    let small : get_or c.args.bytes.now 0 0 < 128 = search rules in
    let one = uvarint_at-one c.args.bytes.now some small in
    search (rules, one)
