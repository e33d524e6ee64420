-- How often a progress line is printed.
use Rattle.std.proofs.Common.{◌≡◌, ℕ, ◌+◌, ◌-◌, ◌/◌, ◌≤◌, ◌&&◌, Bool, true, false, List, [], ◌∷◌, if◌then◌else◌, max, nat_le, nat_lt, refl, arith}
use Rattle.std.proofs.lemmas.Grind.{common_steps}
use Rattle.progress.specs.declared.pacer.Pacer.{Pacer}
use Rattle.progress.specs.Progress.{count_in_second, moments, told}

-- the most lines in a second, if the last line before it was printed at this millisecond
abbrev pub most_after : ℕ → ℕ → ℕ
most_after start last = (start + 1000 - max start (last + 100) + 99) / 100

-- one more round: a line, at the earliest 100 milliseconds after the last, or none
count-round : (is_terminal is_later : Bool) (last now start : ℕ) (told quiet : List ℕ)
    → count_in_second start told ≤ most_after start now
    → count_in_second start quiet ≤ most_after start last
    → count_in_second start (if is_terminal && (is_later && nat_le (last + 100) now) then now ∷ told else quiet) ≤ most_after start last
count-round false is_later last now start told quiet few still = still
count-round true false last now start told quiet few still = still
count-round true true last now start told quiet few still = grind (arith, common_steps)

pub count-moments : (p : Pacer) (rounds : List (ℕ × ℕ)) (start : ℕ) → count_in_second start (moments p rounds) ≤ most_after start p.last
count-moments p [] start = omega arith
count-moments p ((turn, now) ∷ rounds) start =
    count-round p.is_terminal (nat_lt 0 turn) p.last now start (moments (told p now) rounds) (moments p rounds)
    (count-moments (told p now) rounds start) (count-moments p rounds start)

-- at most ten lines are printed in any second
pub ten_a_second : (p : Pacer) (rounds : List (ℕ × ℕ)) (start : ℕ) → count_in_second start (moments p rounds) ≤ 10
ten_a_second p rounds start = let few = count-moments p rounds start in omega arith

none-round : (is_terminal is_due : Bool) (told quiet : List ℕ) → is_terminal ≡ false → quiet ≡ [] → (if is_terminal && is_due then told else quiet) ≡ []
none-round is_terminal is_due told quiet silent none = rw silent none

-- without a terminal no line is printed
pub none_without_terminal : (p : Pacer) (rounds : List (ℕ × ℕ)) → p.is_terminal ≡ false → moments p rounds ≡ []
none_without_terminal p [] silent = refl
none_without_terminal p ((turn, now) ∷ rounds) silent =
    none-round p.is_terminal (nat_lt 0 turn && nat_le (p.last + 100) now) (now ∷ moments (told p now) rounds) (moments p rounds) silent
    (none_without_terminal p rounds silent)
