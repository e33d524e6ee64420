use Rattle.std.proofs.Common.{◌≡◌, ◌+◌, take}
use Rattle.std.specs.Io.Iter.{u64_saturate}
use Rattle.block_cut.specs.Cutting.{chunk_count}
use Rattle.block_cut.proofs.planning.add_samples.Given as goal

abbrev pub invariant-loop-chunk : goal.invariant-loop-chunk
invariant-loop-chunk l = l.count ≡ u64_saturate (l.before + chunk_count (take l.chunk-index l.chunks))
