use Rattle.std.proofs.Common.{◌≡◌, length, take}
use Rattle.block_read.specs.Counts.{sample_count, chunk_count, hidden_count}
use Rattle.block_read.proofs.counts.counts_of.Given as goal

-- the counts of the rows so far
abbrev pub invariant-loop-row : goal.invariant-loop-row
invariant-loop-row l =
    (l.counts.samples ≡ sample_count (take l.row-index l.rows))
    × (l.counts.series ≡ length l.rows)
    × (l.counts.chunks ≡ chunk_count (take l.row-index l.rows))
    × (l.counts.hidden ≡ hidden_count (take l.row-index l.rows))
