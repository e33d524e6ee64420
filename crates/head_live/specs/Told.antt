-- The verdicts that an appender gets on its rows.
use Rattle.std.specs.Prelude.{◌≡◌, ℕ, ◌+◌, List, [], ◌∷◌, ◌++◌, filter, length, map}
use Rattle.head_live.specs.declared.verdict.Verdict.{Verdict}
use Rattle.head_live.specs.declared.told.Told.{Told}
use Rattle.head_live.specs.Rows.{Row}
use Rattle.head_live.specs.Verdicts.{is_accepted}

-- a row with its verdict
pub record Answer : Type 0 where
  pub row : Row
  pub verdict : Verdict

-- the row of an answered row
abbrev pub row_told : Told → Row
row_told t = record { labels = t.labels.value; time = t.time; value = t.value }

-- an answered row with its verdict
abbrev pub answer_of : Told → Answer
answer_of t = record { row = row_told t; verdict = t.verdict }

-- each row with its verdict
abbrev pub answers : List Row → List Verdict → List Answer
answers [] said = []
answers (r ∷ rows) [] = []
answers (r ∷ rows) (v ∷ said) = record { row = r; verdict = v } ∷ answers rows said

-- the number of accepted rows
abbrev pub accepted_count : List Verdict → ℕ
accepted_count said = length (filter is_accepted said)

-- the rows that were told to be accepted
abbrev pub accepted_rows : List Answer → List Row
accepted_rows told = map (λ a. a.row) (filter (λ a. is_accepted a.verdict) told)

-- The value of `Appender`: the number of its accepted rows, and its rows with their verdicts, in order.
pub record AppenderState : Type 0 where
  pub share : ℕ
  pub told : List Answer

-- An appender got these verdicts on these rows: its share grew by the accepted ones, and what it was told by all of them.
pub record HasAnswered (old new : AppenderState) (rows : List Row) (said : List Verdict) : Type 0 where
  pub each : length said ≡ length rows
  pub share : new.share ≡ old.share + accepted_count said
  pub told : new.told ≡ old.told ++ answers rows said
