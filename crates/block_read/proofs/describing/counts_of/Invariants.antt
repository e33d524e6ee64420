use Rattle.std.proofs.Common.{◌≡◌, length, take}
use Rattle.std.specs.List.{flat_map}
use Rattle.std.specs.Io.Iter.{u64_saturate}
use Rattle.block_read.specs.Blocks.{chunk_count}
use Rattle.block_read.proofs.describing.counts_of.Given as goal

abbrev pub invariant-loop-row : goal.invariant-loop-row
invariant-loop-row l = (l.count ≡ u64_saturate (length (flat_map (λ s. s) (take l.row-index l.samples)))) × (l.chunks ≡ u64_saturate (chunk_count (take l.row-index l.samples)))
