use Rattle.std.proofs.Common.{◌∙◌, ◌++◌, List, Bool, ap}
use Rattle.xor_chunk.proofs.Bits.{one_bit}
use Rattle.xor_chunk.proofs.reader.BitReader.read_bit.Goals as goal

pub returns-clause-taken : goal.returns-clause-taken
returns-clause-taken c = c.in_ok-read_bits.ensures.taken ∙ ap (λ (bs : List Bool). bs ++ c.read_bits.new.self) (one_bit c.in_ok-read_bits.field-0 c.in_ok-read_bits.ensures.fits)
