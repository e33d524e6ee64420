-- The greatest of some times.
use Rattle.std.specs.Prelude.{ℤ, Bool, false, List, Option, None, Some, int_le, int_lt}
use Rattle.hw_bytes.specs.Lists.{greater_by, greatest_by}

-- the later of two times, of which the first may be missing
abbrev pub later : Option ℤ → ℤ → Option ℤ
later = greater_by int_lt

-- the greatest of some times, if there are any
abbrev pub greatest : List ℤ → Option ℤ
greatest = greatest_by int_lt

-- whether there is a time, and it is t or later
abbrev pub reaches : Option ℤ → ℤ → Bool
reaches None t = false
reaches (Some u) t = int_le t u
