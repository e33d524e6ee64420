-- The size of a block, in numbers of 64 bits: the greatest stands for any larger one.
use Rattle.std.specs.Prelude.{ℕ, List, length}
use Rattle.std.specs.List.{sum_by}
use Rattle.std.specs.Int.{div_ceil}
use Rattle.std.specs.Io.Iter.{u64_saturate}
use Rattle.block_read.specs.declared.rows.BlockRow.{BlockRow}

-- the number of samples of all rows
abbrev pub sample_count : List BlockRow → ℕ
sample_count rows = u64_saturate (sum_by (λ (r : BlockRow). length r.samples) rows)

-- the number of chunks of all rows: 120 samples in each, and the rest of a row in its last one
abbrev pub chunk_count : List BlockRow → ℕ
chunk_count rows = u64_saturate (sum_by (λ (r : BlockRow). div_ceil (length r.samples) 120) rows)

-- the number of runs of hidden times of all rows
abbrev pub hidden_count : List BlockRow → ℕ
hidden_count rows = u64_saturate (sum_by (λ (r : BlockRow). length r.hidden) rows)
