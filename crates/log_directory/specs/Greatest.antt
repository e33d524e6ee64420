-- The greatest time of blocks.
use Rattle.std.specs.Prelude.{◌≡◌, ℤ, ◌≤ℤ◌, [], All, Contains, List, None, Option, Some, filter, map, not}
use Rattle.log_directory.specs.declared.meta.BlockTimes.{BlockTimes}

-- the greatest of these times, if there is one
abbrev pub IsGreatest : List ℤ → Option ℤ → Type 0
IsGreatest times None = times ≡ []
IsGreatest times (Some time) = Contains times time × All (λ other. other ≤ℤ time) times

-- the greatest times of the blocks that were not made of samples that came late
abbrev pub times_in_order : List BlockTimes → List ℤ
times_in_order blocks = map (λ block. block.max_time) (filter (λ block. not block.out_of_order) blocks)
