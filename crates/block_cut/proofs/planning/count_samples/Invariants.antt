use Rattle.std.proofs.Common.{◌≡◌, take}
use Rattle.std.specs.Io.Iter.{u64_saturate}
use Rattle.block_cut.specs.Cutting.{sample_count}
use Rattle.block_cut.proofs.planning.count_samples.Given as goal

abbrev pub invariant-loop-row : goal.invariant-loop-row
invariant-loop-row l = l.count ≡ u64_saturate (sample_count (take l.row-index l.rows))
