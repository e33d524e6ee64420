use Rattle.std.proofs.Common.{rules, arith}
use Rattle.std.specs.Prelude.{pos, ◌≤ℤ◌, ◌<ℤ◌}
use Rattle.std.proofs.lemmas.Int.{ints}
use Rattle.head_column.specs.Samples.{Sample}
use Rattle.block_read.proofs.Rising.{rise_at, rise_more}
use Rattle.block_read.proofs.chunks.do_rise.Goals as goal

abbrev nothing : Sample
nothing = record { time = pos 0; value = pos 0 }

pub returns-then-time_of-clause-complete : goal.returns-then-time_of-clause-complete
returns-then-time_of-clause-complete c = λ h.
    let not_later : c.time_of.result ≤ℤ c.time_of-in-loop-i.result = search rules in
    let later = rise_at c.args.samples.now c.loop-i.i nothing c.time_of-in-loop-i.result c.time_of.result c.loop-i.auto.i c.loop-i-test.true c.time_of-in-loop-i.ensures c.time_of.ensures h in
    absurd (omega (arith, ints, not_later, later))

pub loop-i-preserved : goal.loop-i-preserved
loop-i-preserved c =
    let later : c.time_of-in-loop-i.result <ℤ c.time_of.result = search rules in
    rise_more c.args.samples.now c.loop-i.i nothing c.time_of-in-loop-i.result c.time_of.result c.loop-i.auto.i c.loop-i-test.true c.time_of-in-loop-i.ensures c.time_of.ensures later c.loop-i.invariant
