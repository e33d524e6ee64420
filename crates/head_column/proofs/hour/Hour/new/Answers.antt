use Rattle.std.proofs.Common.{arith}
use Rattle.std.specs.Int.{w64}
use Rattle.std.proofs.lemmas.Int.{ints, to_z-of_z}
use Rattle.head_column.proofs.HourLaws.{has_time}
use Rattle.head_column.proofs.hour.Hour.new.Goals as goal

pub returns-clause-some : goal.returns-clause-some
returns-clause-some c =
    (to_z-of_z w64 c.args.k c.ranges.k, has_time c.args.k (record { from = grind (arith, ints, c.if-k-lt-FIRST.false); to = grind (arith, ints, c.if-k-gt-LAST.false) }))
