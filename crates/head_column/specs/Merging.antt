-- How a column adds a run to its runs. That the result is the maximal runs of all their times is the law `columns_follow_items`.
use Rattle.std.specs.Prelude.{pos, ◌+ℤ◌, Bool, List, [], ◌∷◌, int_lt, if◌then◌else◌}
use Rattle.std.specs.List.{fold}
use Rattle.std.specs.Int.{int_min, int_max}
use Rattle.head_column.specs.declared.items.Run.{Run}

-- whether run a ends before run b begins, with a time between them
abbrev pub ends_before : Run → Run → Bool
ends_before a b = int_lt (a.max_time +ℤ pos 1) b.min_time

-- the least run that contains both
abbrev pub span_of : Run → Run → Run
span_of a b = record { min_time = int_min a.min_time b.min_time; max_time = int_max a.max_time b.max_time }

-- the runs of the times of rs and of r, if none of rs ends before r
abbrev pub absorb : List Run → Run → List Run
absorb [] r = r ∷ []
absorb (h ∷ hs) r = if ends_before r h then r ∷ h ∷ hs else absorb hs (span_of h r)

-- the runs of the times of rs and of r
abbrev pub with_run : List Run → Run → List Run
with_run [] r = r ∷ []
with_run (h ∷ hs) r = if ends_before h r then h ∷ with_run hs r else absorb (h ∷ hs) r

-- the runs of the times of rs and of all of more, added one after another
abbrev pub with_runs : List Run → List Run → List Run
with_runs rs more = fold with_run rs more
