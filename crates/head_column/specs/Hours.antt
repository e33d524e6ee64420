-- Hours.
use Rattle.std.specs.Prelude.{ℕ, ℤ, pos, ◌+ℤ◌, ◌*ℤ◌, ◌&&◌, Bool, IsTrue, FitsSigned, int_le, int_lt}
use Rattle.std.specs.Int.{w64}

-- an hour in milliseconds
abbrev pub hour_length : ℕ
hour_length = 3600000

-- the time at which hour k begins
abbrev pub hour_start : ℤ → ℤ
hour_start k = k *ℤ pos hour_length

-- hour k is the times from its start up to the start of the next hour, exclusive
abbrev pub is_in_hour : ℤ → ℤ → Bool
is_in_hour k t = int_le (hour_start k) t && int_lt t (hour_start (k +ℤ pos 1))

-- some time in the hour fits in 64 bits
abbrev pub HasTime : ℤ → Type 0
HasTime k = (t : ℤ) × FitsSigned w64 t × IsTrue (is_in_hour k t)

-- some time in the hour does not fit in 64 bits
abbrev pub IsEdge : ℤ → Type 0
IsEdge k = (t : ℤ) × (FitsSigned w64 t → ⊥) × IsTrue (is_in_hour k t)
