use Rattle.std.proofs.Common.{arith}
use Rattle.std.proofs.lemmas.Int.{ints}
use Rattle.head_column.specs.Hours.{hour_start}
use Rattle.head_column.proofs.HourLaws.{above_least, below_greatest, inside}
use Rattle.block_read.specs.Blocks.{hour_last}
use Rattle.hour_rows.proofs.rows.last_of.Goals as goal

pub returns : goal.returns
returns c =
    let fits = inside c.args.hour c.requires in
    let low = above_least (hour_start c.args.hour) fits.0 in
    let high = below_greatest (hour_last c.args.hour) fits.1 in
    omega (arith, ints, low, high, c.first_of.ensures)
