use Rattle.std.proofs.Common.{◌≡◌, ◌<◌, ℕ, get_or, map}
use Rattle.std.specs.Prelude.{pos}
use Rattle.std.specs.List.{zip}
use Rattle.block_read.specs.Blocks.{meta_of}
use Rattle.block_read.proofs.samples.are_named.Given as goal

abbrev pub invariant-loop-i : goal.invariant-loop-i
invariant-loop-i l = (k : ℕ) → k < l.i → get_or l.metas k (record { min_time = pos 0; max_time = pos 0; reference = 0 }) ≡ get_or (map meta_of (zip l.chunks l.references)) k (record { min_time = pos 0; max_time = pos 0; reference = 0 })
