-- Shares of a whole.
use Rattle.std.specs.Prelude.{ℕ, ◌*◌, ◌/◌, ◌==◌, if◌then◌else◌}

-- the share of a whole in tenths of a percent, rounded down; 0 of a whole of 0
abbrev pub share_of : ℕ → ℕ → ℕ
share_of count whole = if whole == 0 then 0 else count * 1000 / whole
