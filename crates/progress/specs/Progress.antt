-- The progress line of a replay: its text, and when it is printed. Times are milliseconds of a clock that never goes back.
use Rattle.std.specs.Prelude.{ℕ, ◌+◌, ◌-◌, ◌*◌, ◌/◌, ◌%◌, ◌&&◌, Bool, true, false, List, [], ◌∷◌, if◌then◌else◌, min, max, nat_lt, nat_le, count_by}
use Rattle.std.specs.List.{concat}
use Rattle.std.specs.Fmt.{decimal}
use lib.Chars.{codes}
use Rattle.wal_page.specs.Page.{page_size}
use Rattle.progress.specs.declared.extent.Extent.{Extent}
use Rattle.progress.specs.declared.line.Line.{Line}
use Rattle.progress.specs.declared.pacer.Pacer.{Pacer}

-- ---- the text

-- the number of pages in the rounds before this one
abbrev pub pages_done : Extent → ℕ → ℕ
pages_done extent turn = min (turn * extent.round_pages) extent.pages

-- the number of bytes in the first `done` pages of a log of `bytes` bytes, whose last page may be short
abbrev pub bytes_done : ℕ → ℕ → ℕ
bytes_done bytes done = min (done * page_size) bytes

-- the number of seconds left if each page left takes as long as one that is done; `done` of `pages` pages took `taken` milliseconds
abbrev pub seconds_left : ℕ → ℕ → ℕ → ℕ
seconds_left pages done taken = taken * (pages - done) / max done 1 / 1000

-- the text of the line: it begins at the start of the terminal's line, and clears what is to the right of it
abbrev pub line_text : ℕ → ℕ → ℕ → ℕ → List ℕ
line_text pages bytes done taken = concat (
    codes "\r" ∷ decimal done ∷ codes " of " ∷ decimal pages ∷ codes " pages, "
    ∷ decimal (bytes_done bytes done / 1000000) ∷ codes " of " ∷ decimal (bytes / 1000000) ∷ codes " MB, "
    ∷ decimal (seconds_left pages done taken / 60) ∷ codes ":"
    ∷ decimal (seconds_left pages done taken % 60 / 10) ∷ decimal (seconds_left pages done taken % 10) ∷ codes " left\u{1b}[K" ∷ [])

-- the line at the beginning of this round
abbrev pub line_at : Pacer → ℕ → ℕ → Line
line_at p turn now = record { extent = p.extent; done = pages_done p.extent turn; taken = now - p.began }

-- ---- the times

-- the state at the beginning of a replay: no line has been printed
abbrev pub begun : Bool → Extent → ℕ → Pacer
begun is_terminal extent now = record { is_terminal = is_terminal; extent = extent; began = now; last = now; has_line = false }

-- the state after a line is printed
abbrev pub told : Pacer → ℕ → Pacer
told p now = record p { last = now; has_line = true }

-- whether a line is due: there is a terminal, at least one round is done, and the last line, or the beginning, is at least 100
-- milliseconds ago
abbrev pub is_due : Pacer → ℕ → ℕ → Bool
is_due p turn now = p.is_terminal && (nat_lt 0 turn && nat_le (p.last + 100) now)

-- the times at which lines are printed in a replay that begins these rounds, each given with its time
abbrev pub moments : Pacer → List (ℕ × ℕ) → List ℕ
moments p [] = []
moments p ((turn, now) ∷ rounds) = if is_due p turn now then now ∷ moments (told p now) rounds else moments p rounds

-- the number of these times in the second from `start` on
abbrev pub count_in_second : ℕ → List ℕ → ℕ
count_in_second start moments = count_by (λ m. nat_le start m && nat_lt m (start + 1000)) moments
