use Rattle.std.proofs.Common.{◌+◌, ◌<◌, subst}
use Rattle.xor_chunk.specs.Private.{IsOpen}
use Rattle.xor_chunk.proofs.Reading.{within_none, within_short, within_found}
use Rattle.xor_chunk.proofs.decoding.read_within.Goals as goal

pub returns-in_default : goal.returns-in_default
returns-in_default c = within_none c.args.window c.read_long.result c.args.bits.now c.read_long.new.self c.in_default.is c.read_long.ensures.fits c.read_long.ensures.taken c.read_long.ensures.short

pub returns-in_err-number : goal.returns-in_err-number
returns-in_err-number c = rw c.from_residual.ensures (within_short c.args.window c.in-Some.open c.width.result c.args.bits.now c.in-Some.is c.width.ensures c.in_err-number.ensures.short)

pub returns : goal.returns
returns c =
    let wide : c.in-Some.open.leading + c.in-Some.open.trailing < 64 = subst IsOpen c.in-Some.is c.requires in
    within_found c.args.window c.in-Some.open c.width.result c.in_ok-number.number c.args.bits.now c.read_long-2.new.self c.in-Some.is c.width.ensures wide c.in_ok-number.ensures.fits c.in_ok-number.ensures.taken
