-- Runs clipped to an hour.
use Rattle.std.proofs.Common.{◌≡◌, ℕ, ◌+◌, ◌<◌, Bool, true, false, List, [], ◌∷◌, ◌++◌, length, get_or, take, map, refl, sym, ap, ◌∙◌, arith, All}
use Rattle.std.specs.Prelude.{ℤ, ◌≤ℤ◌, ◌<ℤ◌, filter, int_le, cond}
use Rattle.std.specs.List.{AllByRecursion}
use Rattle.std.specs.Int.{int_min, int_max}
use Rattle.std.proofs.lemmas.Int.{ints}
use Rattle.std.proofs.lemmas.List.{take_more}
use Rattle.std.proofs.lemmas.List.Elements.{All-from_recursion, filter-append}
use Rattle.hw_bytes.proofs.Lists.{append_none, map_push}
use Rattle.head_column.specs.declared.items.Run.{Run}
use Rattle.head_column.specs.Hours.{hour_start}
use Rattle.head_column.specs.Runs.{AreApart, BeginPast}
use Rattle.block_read.specs.Blocks.{IsWithin, hour_last}
use Rattle.hour_rows.specs.Clipping.{clip, runs_in}

abbrev is_some_run : Run → Bool
is_some_run r = int_le r.min_time r.max_time

le_from : (a b : ℤ) → int_le a b ≡ true → a ≤ℤ b
le_from a b h = grind (arith, ints)

le_true : (a b : ℤ) → a ≤ℤ b → int_le a b ≡ true
le_true a b h = grind (arith, ints)

le_false : (a b : ℤ) → b <ℤ a → int_le a b ≡ false
le_false a b h = grind (arith, ints)

max_left : (a b : ℤ) → a ≤ℤ int_max a b
max_left a b = grind (arith, ints)

max_right : (a b : ℤ) → b ≤ℤ int_max a b
max_right a b = grind (arith, ints)

min_left : (a b : ℤ) → int_min a b ≤ℤ a
min_left a b = grind (arith, ints)

min_right : (a b : ℤ) → int_min a b ≤ℤ b
min_right a b = grind (arith, ints)

-- one run more
runs_in-more : (k : ℤ) (runs : List Run) (i : ℕ) (d : Run) → i < length runs → runs_in k (take (i + 1) runs) ≡ runs_in k (take i runs) ++ filter is_some_run (clip k (get_or runs i d) ∷ [])
runs_in-more k runs i d lt =
    ap (λ (rs : List Run). runs_in k rs) (take_more runs i d lt) ∙ ap (filter is_some_run) (map_push (clip k) (take i runs) (get_or runs i d))
    ∙ filter-append is_some_run (map (clip k) (take i runs)) (clip k (get_or runs i d) ∷ [])

pub runs_in-kept : (k : ℤ) (runs kept more : List Run) (i : ℕ) (d r : Run) → i < length runs → r ≡ clip k (get_or runs i d) → r.min_time ≤ℤ r.max_time → kept ≡ runs_in k (take i runs) → more ≡ kept ++ r ∷ []
    → more ≡ runs_in k (take (i + 1) runs)
runs_in-kept k runs kept more i d r lt is some so e =
    let one : filter is_some_run (r ∷ []) ≡ r ∷ [] = ap (λ (b : Bool). cond b (r ∷ []) []) (le_true r.min_time r.max_time some) in
    e ∙ ap (λ (rs : List Run). rs ++ r ∷ []) so ∙ ap (λ (rs : List Run). runs_in k (take i runs) ++ rs) (sym one) ∙ ap (λ (q : Run). runs_in k (take i runs) ++ filter is_some_run (q ∷ [])) is
    ∙ sym (runs_in-more k runs i d lt)

pub runs_in-left_out : (k : ℤ) (runs kept : List Run) (i : ℕ) (d r : Run) → i < length runs → r ≡ clip k (get_or runs i d) → r.max_time <ℤ r.min_time → kept ≡ runs_in k (take i runs) → kept ≡ runs_in k (take (i + 1) runs)
runs_in-left_out k runs kept i d r lt is none so =
    let no : filter is_some_run (r ∷ []) ≡ [] = ap (λ (b : Bool). cond b (r ∷ []) []) (le_false r.min_time r.max_time none) in
    so ∙ sym (append_none (runs_in k (take i runs))) ∙ ap (λ (rs : List Run). runs_in k (take i runs) ++ rs) (sym no) ∙ ap (λ (q : Run). runs_in k (take i runs) ++ filter is_some_run (q ∷ [])) is
    ∙ sym (runs_in-more k runs i d lt)

-- ---- what holds of the runs of an hour

later_in : (k u t : ℤ) (rs : List Run) → u ≤ℤ t → BeginPast t rs → AreApart rs → BeginPast u (runs_in k rs)
later_in k u t [] le h apart = tt
later_in k u t (r ∷ rs) le h apart = by (is_some_run (clip k r)) (later_in k u r.max_time rs (omega (arith, ints, le, h, apart.0.some)) apart.1 apart.2) where
  by : (b : Bool) → BeginPast u (runs_in k rs) → BeginPast u (cond b (clip k r ∷ runs_in k rs) (runs_in k rs))
  by true rest =
      let first : r.min_time ≤ℤ (clip k r).min_time = max_left r.min_time (hour_start k) in
      omega (arith, ints, le, h, first)
  by false rest = rest

pub AreApart-runs_in : (k : ℤ) (rs : List Run) → AreApart rs → AreApart (runs_in k rs)
AreApart-runs_in k [] h = tt
AreApart-runs_in k (r ∷ rs) h = by (is_some_run (clip k r)) refl (AreApart-runs_in k rs h.2) where
  by : (b : Bool) → is_some_run (clip k r) ≡ b → AreApart (runs_in k rs) → AreApart (cond b (clip k r ∷ runs_in k rs) (runs_in k rs))
  by true e rest = (record { some = le_from (clip k r).min_time (clip k r).max_time e }, later_in k (clip k r).max_time r.max_time rs (min_left r.max_time (hour_last k)) h.1 h.2, rest)
  by false e rest = rest

within_by : (k : ℤ) (rs : List Run) → AllByRecursion (IsWithin k) (runs_in k rs)
within_by k [] = tt
within_by k (r ∷ rs) = by (is_some_run (clip k r)) refl (within_by k rs) where
  by : (b : Bool) → is_some_run (clip k r) ≡ b → AllByRecursion (IsWithin k) (runs_in k rs) → AllByRecursion (IsWithin k) (cond b (clip k r ∷ runs_in k rs) (runs_in k rs))
  by true e rest = (record { some = le_from (clip k r).min_time (clip k r).max_time e; first = max_right r.min_time (hour_start k); last = min_right r.max_time (hour_last k) }, rest)
  by false e rest = rest

pub IsWithin-runs_in : (k : ℤ) (rs : List Run) → All (IsWithin k) (runs_in k rs)
IsWithin-runs_in k rs = All-from_recursion (IsWithin k) (runs_in k rs) (within_by k rs)
