use Rattle.std.proofs.Common.{◌≡◌, length, take}
use Rattle.std.specs.List.{sum_by}
use Rattle.std.specs.Io.Iter.{u64_saturate}
use Rattle.block_cut.proofs.planning.count_chunks.Given as goal

abbrev pub invariant-loop-row : goal.invariant-loop-row
invariant-loop-row l = l.count ≡ u64_saturate (sum_by length (take l.row-index l.rows))
