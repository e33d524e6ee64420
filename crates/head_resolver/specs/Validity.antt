-- The least valid time m, in milliseconds: which entries are expired.
use Rattle.std.specs.Prelude.{ℤ, Bool, false, int_lt}
use Rattle.wal_record.specs.Entries.{Entry, series, sample, stone}

-- whether the entry is expired
abbrev pub is_expired : ℤ → Entry → Bool
is_expired m (series e) = false
is_expired m (sample s) = int_lt s.time m
is_expired m (stone d) = int_lt d.max_time m
