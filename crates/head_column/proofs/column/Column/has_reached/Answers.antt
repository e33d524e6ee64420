use Rattle.std.proofs.Common.{arith}
use Rattle.std.proofs.lemmas.Int.{to_z-of_z}
use Rattle.head_column.proofs.Rising.{has_reached_latest}
use Rattle.head_column.proofs.column.Column.has_reached.Goals as goal

pub returns : goal.returns
returns c =
    let e = has_reached_latest c.args.self.now.history.samples c.args.time in
    grind (arith, to_z-of_z, c.reaches.ensures, c.max_time.ensures, e)
