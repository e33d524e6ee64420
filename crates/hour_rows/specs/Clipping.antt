-- The samples and the hidden runs of an hour.
use Rattle.std.specs.Prelude.{ℤ, List, map, filter, int_le}
use Rattle.std.specs.Int.{int_min, int_max}
use Rattle.head_column.specs.Samples.{Sample}
use Rattle.head_column.specs.declared.items.Run.{Run}
use Rattle.head_column.specs.Hours.{hour_start, is_in_hour}
use Rattle.block_read.specs.Blocks.{hour_last}

-- the samples in the hour
abbrev pub samples_in : ℤ → List Sample → List Sample
samples_in k samples = filter (λ s. is_in_hour k s.time) samples

-- the run clipped to the hour, both ends included; it can be empty
abbrev pub clip : ℤ → Run → Run
clip k r = record { min_time = int_max r.min_time (hour_start k); max_time = int_min r.max_time (hour_last k) }

-- The runs clipped to the hour, without the empty ones.
abbrev pub runs_in : ℤ → List Run → List Run
runs_in k runs = filter (λ r. int_le r.min_time r.max_time) (map (clip k) runs)
