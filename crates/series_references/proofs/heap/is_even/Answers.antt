use Rattle.series_references.proofs.HeapLemmas.{even_bit, odd_bit}
use Rattle.series_references.proofs.heap.is_even.Goals as goal

pub returns-clause-even : goal.returns-clause-even
returns-clause-even c e = even_bit c.args.reference c.args.depth e

pub returns-clause-odd : goal.returns-clause-odd
returns-clause-odd c e = odd_bit c.args.reference c.args.depth e
