-- Parts of the series of a head, one after another.
use Rattle.std.specs.Prelude.{ℕ, ℤ, ◌*◌, List, drop, map, take}
use Rattle.std.specs.List.{filter_map, flat_map}
use Rattle.xor_chunk.specs.declared.sample.Sample.{Sample}
use Rattle.head_column.specs.Histories.{History}
use Rattle.head_intervals.specs.Intervals.{AreCounts, first_time}
use Rattle.head_intervals.specs.declared.intervals.Intervals.{Intervals}
use Rattle.head_intervals.specs.declared.counting.HeadCounts.{HeadCounts}

-- how many series a part has, except for the last one
abbrev pub part_length : ℕ
part_length = 1024

-- the histories of a part
abbrev pub part_at : List History → ℕ → List History
part_at hs p = take part_length (drop (p * part_length) hs)

-- the times of histories, one after another
abbrev pub times_in : List History → List ℤ
times_in hs = flat_map (λ (h : History). map (λ (s : Sample). s.time) h.samples) hs

-- the first time of each history that has one
abbrev pub first_times_in : List History → List ℤ
first_times_in hs = filter_map (λ (h : History). first_time h.samples) hs

-- The counts are those of these histories.
pub record AreHeadCounts (i : Intervals) (hs : List History) (c : HeadCounts) : Type 0 where
  pub samples : AreCounts i (times_in hs) c.samples.items
  pub series : AreCounts i (first_times_in hs) c.series.items
