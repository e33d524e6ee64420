-- Times parted into intervals, and what of a head is in each.
use Rattle.std.specs.Prelude.{◌≡◌, ℕ, ℤ, ◌+◌, ◌+ℤ◌, ◌*◌, ◌<◌, ◌≤◌, ◌≤ℤ◌, ◌&&◌, Bool, List, [], ◌∷◌, All, Contains, IsTrue, Option, None, Some, count_by, int_le, int_lt, length, map, pos, slice_index_or}
use Rattle.std.specs.List.{filter_map, flat_map}
use Rattle.xor_chunk.specs.declared.sample.Sample.{Sample}
use Rattle.head_column.specs.Histories.{History}
use Rattle.head_core.specs.Content.{Content}
use Rattle.head_intervals.specs.declared.intervals.Intervals.{Intervals}

abbrev pub most_intervals : ℕ
most_intervals = 240

-- the first time of an interval: the next one begins behind its last
abbrev pub begin_of : Intervals → ℕ → ℤ
begin_of i k = i.first +ℤ pos (k * i.width)

-- whether an interval has the time
abbrev pub is_in : Intervals → ℕ → ℤ → Bool
is_in i k t = int_le (begin_of i k) t && int_lt t (begin_of i (k + 1))

abbrev pub IsIn : Intervals → ℕ → ℤ → Type 0
IsIn i k t = IsTrue (is_in i k t)

-- The intervals part the times from the first to the last one: few of them, one behind another, and each of these times is in one.
pub record Parts (first last : ℤ) (i : Intervals) : Type 0 where
  pub begins : i.first ≡ first
  pub wide : 0 < i.width
  pub few : i.count ≤ most_intervals
  pub each : (t : ℤ) → first ≤ℤ t → t ≤ℤ last → (k : ℕ) × (k < i.count) × IsIn i k t

-- The counts are those of the times in each interval.
pub record AreCounts (i : Intervals) (times : List ℤ) (counts : List ℕ) : Type 0 where
  pub as_many : length counts ≡ i.count
  pub each : (k : ℕ) → k < i.count → slice_index_or counts k 0 ≡ count_by (is_in i k) times

-- the least and the greatest of some times; none of no times
abbrev pub AreEnds : List ℤ → Option (ℤ × ℤ) → Type 0
AreEnds times None = times ≡ []
AreEnds times (Some ends) = Contains times ends.0 × Contains times ends.1 × All (λ t. (ends.0 ≤ℤ t) × (t ≤ℤ ends.1)) times

-- the times of the accepted samples of a head, series after series
abbrev pub times_of : Content → List ℤ
times_of c = flat_map (λ (h : History). map (λ (s : Sample). s.time) h.samples) c.histories

-- the time of the first of some samples, if there is one
abbrev pub first_time : List Sample → Option ℤ
first_time [] = None
first_time (s ∷ more) = Some s.time

-- the time of the first accepted sample of each series that has one
abbrev pub first_times_of : Content → List ℤ
first_times_of c = filter_map (λ (h : History). first_time h.samples) c.histories
