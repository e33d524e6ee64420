use Rattle.hw_bytes.proofs.Fixed.{fixed_nowhere}
use Rattle.hw_bytes.proofs.numbers.be64_at.Goals as goal

pub returns-then-bytes-lt8-clause-none : goal.returns-then-bytes-lt8-clause-none
returns-then-bytes-lt8-clause-none c = fixed_nowhere 8 c.args.bytes.now c.if-bytes-lt8.true
