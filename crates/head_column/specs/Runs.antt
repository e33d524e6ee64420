-- Runs of times.
use Rattle.std.specs.Prelude.{◌≡◌, ℤ, pos, ◌+ℤ◌, ◌≤ℤ◌, ◌<ℤ◌, Bool, ◌&&◌, List, [], ◌∷◌, int_le}
use Rattle.std.specs.List.{list_any}
use Rattle.head_column.specs.declared.items.Run.{Run}

-- whether time t is in the run
abbrev pub spans : Run → ℤ → Bool
spans r t = int_le r.min_time t && int_le t r.max_time

-- whether time t is in one of the runs
abbrev pub span_any : List Run → ℤ → Bool
span_any rs t = list_any (λ r. spans r t) rs

-- the run is not empty
pub record IsRun (r : Run) : Type 0 where
  pub some : r.min_time ≤ℤ r.max_time

-- the first run, if there is one, begins after t + 1
abbrev pub BeginPast : ℤ → List Run → Type 0
BeginPast t [] = Unit {0}
BeginPast t (r ∷ rs) = (t +ℤ pos 1) <ℤ r.min_time

-- no run is empty, the runs ascend, and between two of them is a time that is in neither
abbrev pub AreApart : List Run → Type 0
AreApart [] = Unit {0}
AreApart (r ∷ rs) = IsRun r × BeginPast r.max_time rs × AreApart rs

-- The maximal runs of the times that meet a test: they are apart, and contain just these times.
pub record AreRunsOf (test : ℤ → Bool) (rs : List Run) : Type 0 where
  pub apart : AreApart rs
  pub same : (t : ℤ) → span_any rs t ≡ test t
