use Rattle.std.proofs.Common.{◌≡◌, take}
use Rattle.std.specs.Prelude.{All}
use Rattle.head_column.specs.Chunks.{chunk_samples}
use Rattle.head_column.proofs.copying.are_full.Given as goal

abbrev pub invariant-loop-chunk : goal.invariant-loop-chunk
invariant-loop-chunk l = All (λ c. c.count ≡ chunk_samples) (take l.chunk-index l.others)
