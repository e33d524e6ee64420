-- The definitions at small contents.
use Rattle.std.proofs.Common.{◌≡◌, ℕ, List, [], ◌∷◌, refl}
use Rattle.std.specs.Prelude.{ℤ, pos, negsuc, codes}
use Rattle.wal_record.specs.Labels.{Labels, label}
use Rattle.head_column.specs.declared.items.Run.{Run}
use Rattle.head_column.specs.Samples.{Sample}
use Rattle.head_column.specs.Histories.{History}
use Rattle.head_core.specs.Content.{Content}
use Rattle.block_read.specs.declared.rows.BlockRow.{BlockRow}
use Rattle.block_read.specs.Blocks.{tombstones_of}
use Rattle.hour_rows.specs.Clipping.{runs_in, samples_in}
use Rattle.hour_rows.specs.Rows.{rows_of}

abbrev job : List ℕ → Labels
job name = label (codes "job") name ∷ []

abbrev zone : List ℕ → Labels
zone name = label (codes "zone") name ∷ []

abbrev sample : ℕ → ℕ → Sample
sample time value = record { time = pos time; value = pos value }

abbrev run : ℤ → ℤ → Run
run from to = record { min_time = from; max_time = to }

abbrev history : List Sample → List Run → History
history samples hidden = record { samples = samples; hidden = hidden }

abbrev row : Labels → List Sample → List Run → BlockRow
row labels samples hidden = record { labels = labels; samples = samples; hidden = hidden }

-- three series, the second before the first in the order of label sets, the third without a sample in the first hour
abbrev three : Content → Content
three c = record c {
  table = record c.table { series = job (codes "b") ∷ job (codes "a") ∷ zone (codes "c") ∷ [] };
  histories = history (sample 1000 10 ∷ sample 3000 11 ∷ []) [] ∷ history (sample 2000 20 ∷ []) (run (pos 5) (pos 12) ∷ []) ∷ history (sample 3600000 30 ∷ []) [] ∷ [];
}

pub first_hour : (c : Content) → rows_of (pos 0) (three c) ≡ row (job (codes "a")) (sample 2000 20 ∷ []) (run (pos 5) (pos 12) ∷ []) ∷ row (job (codes "b")) (sample 1000 10 ∷ sample 3000 11 ∷ []) [] ∷ []
unfolding rows_of
first_hour c = refl

pub second_hour : (c : Content) → rows_of (pos 1) (three c) ≡ row (zone (codes "c")) (sample 3600000 30 ∷ []) [] ∷ []
unfolding rows_of
second_hour c = refl

pub hour_before : (c : Content) → rows_of (negsuc 0) (three c) ≡ []
unfolding rows_of
hour_before c = refl

-- the last millisecond of an hour is in it, and the first of the next is not
pub ends_of_an_hour : samples_in (pos 0) (sample 0 1 ∷ sample 3599999 2 ∷ sample 3600000 3 ∷ []) ≡ sample 0 1 ∷ sample 3599999 2 ∷ []
ends_of_an_hour = refl

pub within_the_hour : runs_in (pos 0) (run (pos 5) (pos 12) ∷ []) ≡ run (pos 5) (pos 12) ∷ []
within_the_hour = refl

pub all_of_the_hour : runs_in (pos 0) (run (negsuc 9223372036854775807) (pos 9223372036854775807) ∷ []) ≡ run (pos 0) (pos 3599999) ∷ []
all_of_the_hour = refl

pub one_millisecond : runs_in (pos 0) (run (negsuc 9) (negsuc 0) ∷ run (pos 3599999) (pos 3600001) ∷ run (pos 3600003) (pos 3600009) ∷ []) ≡ run (pos 3599999) (pos 3599999) ∷ []
one_millisecond = refl

pub one_by_one : tombstones_of (5 ∷ 9 ∷ []) ((run (pos 1) (pos 2) ∷ run (pos 4) (pos 4) ∷ []) ∷ (run (pos 3) (pos 3) ∷ []) ∷ [])
    ≡ record { series = 5; run = run (pos 1) (pos 2) } ∷ record { series = 5; run = run (pos 4) (pos 4) } ∷ record { series = 9; run = run (pos 3) (pos 3) } ∷ []
unfolding tombstones_of
one_by_one = refl
