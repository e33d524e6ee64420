use Rattle.hw_bytes.proofs.Fixed.{fixed_nowhere}
use Rattle.hw_bytes.proofs.numbers.be16_at.Goals as goal

pub returns-then-bytes-lt2-clause-none : goal.returns-then-bytes-lt2-clause-none
returns-then-bytes-lt2-clause-none c = fixed_nowhere 2 c.args.bytes.now c.if-bytes-lt2.true
