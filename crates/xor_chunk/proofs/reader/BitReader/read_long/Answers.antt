use Rattle.std.proofs.Common.{arith, ◌<◌, ◌-◌, length, ap, length-append}
use Rattle.xor_chunk.specs.Bits.{bits_of}
use Rattle.xor_chunk.proofs.Bits.{joined_halves, joined_below, bits_of-length}
use Rattle.xor_chunk.proofs.reader.BitReader.read_long.Goals as goal

pub returns-in_err-low-clause-short : goal.returns-in_err-low-clause-short
returns-in_err-low-clause-short c =
    let high = ap length c.in_ok-high.ensures.taken in
    let short : length c.args.self.now < c.args.count = omega (arith, high, length-append (bits_of (c.args.count - 32) c.in_ok-high.high) c.read_bits.new.self, bits_of-length (c.args.count - 32) c.in_ok-high.high, c.in_err-low.ensures.short, c.if-count-gt32.true) in
    rw c.from_residual-in_err-low.ensures short

pub returns-then-count-gt32-clause-fits : goal.returns-then-count-gt32-clause-fits
returns-then-count-gt32-clause-fits c = joined_below c.args.count c.in_ok-high.high c.in_ok-low.low c.if-count-gt32.true c.requires.few c.in_ok-high.ensures.fits c.in_ok-low.ensures.fits

pub returns-then-count-gt32-clause-taken : goal.returns-then-count-gt32-clause-taken
returns-then-count-gt32-clause-taken c = joined_halves c.args.self.now c.read_bits.new.self c.read_bits-then-count-gt32.new.self c.args.count c.in_ok-high.high c.in_ok-low.low c.if-count-gt32.true c.requires.few c.in_ok-high.ensures.fits c.in_ok-low.ensures.fits c.in_ok-high.ensures.taken c.in_ok-low.ensures.taken
