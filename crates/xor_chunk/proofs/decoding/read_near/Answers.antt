use Rattle.xor_chunk.proofs.Reading.{near_none, near_far, near_small}
use Rattle.xor_chunk.proofs.decoding.read_near.Goals as goal

pub returns-in_err-low : goal.returns-in_err-low
returns-in_err-low c = rw c.from_residual.ensures (near_none c.args.near c.args.bits.now c.in_err-low.ensures.short)

pub returns-then-low-near : goal.returns-then-low-near
returns-then-low-near c = near_far c.args.near c.in_ok-low.low c.args.bits.now c.read_bits.new.self c.requires c.in_ok-low.ensures.fits c.in_ok-low.ensures.taken c.if-low-near.true

pub returns : goal.returns
returns c = near_small c.args.near c.in_ok-low.low c.args.bits.now c.read_bits.new.self c.requires c.in_ok-low.ensures.fits c.in_ok-low.ensures.taken c.if-low-near.false
