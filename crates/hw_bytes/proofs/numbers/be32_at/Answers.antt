use Rattle.hw_bytes.proofs.Fixed.{fixed_nowhere}
use Rattle.hw_bytes.proofs.numbers.be32_at.Goals as goal

pub returns-then-bytes-lt4-clause-none : goal.returns-then-bytes-lt4-clause-none
returns-then-bytes-lt4-clause-none c = fixed_nowhere 4 c.args.bytes.now c.if-bytes-lt4.true
