use Rattle.std.proofs.Common.{sym}
use Rattle.std.specs.Float.{binary64}
use lib.Ieee.Bits.{nan_bits_above}
use Rattle.float_text.proofs.not_a_number.is_nan.Goals as goal

pub returns : goal.returns
returns c = sym (nan_bits_above binary64 c.args.bits)
