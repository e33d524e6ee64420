use Rattle.std.proofs.Common.{arith}
use Rattle.std.proofs.lemmas.Int.{ints}
use Rattle.head_column.proofs.HourLaws.{has_time}
use Rattle.head_column.proofs.hour.Hour.k.Goals as goal

pub returns-clause-held : goal.returns-clause-held
returns-clause-held c =
    has_time c.args.self (record { from = omega (arith, ints, c.self.invariant.0, c.self.view_is); to = omega (arith, ints, c.self.invariant.1, c.self.view_is) })
