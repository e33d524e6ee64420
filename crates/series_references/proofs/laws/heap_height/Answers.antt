use Rattle.std.proofs.Common.{arith}
use Rattle.series_references.proofs.HeapLemmas.{low}
use Rattle.series_references.proofs.laws.heap_height.Goals as goal

pub returns : goal.returns
returns c heap p f = let l = low heap 0 0 (omega arith) p f in omega (arith, l)
