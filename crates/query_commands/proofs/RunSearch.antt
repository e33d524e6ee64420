-- Finding the run of a time.
use Rattle.std.proofs.Common.{◌≡◌, ℕ, zero, suc, ◌<◌, Bool, true, false, List, [], ◌∷◌, ap, sym, ◌∙◌, refl, arith, length, get_or}
use Rattle.std.specs.Prelude.{ℤ, pos, ◌+ℤ◌, ◌≤ℤ◌, ◌&&◌, ◌||◌, int_le, int_lt}
use Rattle.std.proofs.lemmas.Int.{ints}
use Rattle.head_column.specs.declared.items.Run.{Run}
use Rattle.head_column.specs.Runs.{AreApart, span_any}
use Rattle.head_column.proofs.OneRuns.{none_to}

ended : (a b t : ℤ) → int_lt b t ≡ true → (int_le a t && int_le t b) ≡ false
ended a b t h = grind (arith, ints)

open_still : (a b t : ℤ) → int_lt b t ≡ false → (int_le a t && int_le t b) ≡ int_le a t
open_still a b t h = grind (arith, ints)

not_past : (b t : ℤ) → int_lt b t ≡ false → t ≤ℤ (b +ℤ pos 1)
not_past b t h = grind (arith, ints)

or_nothing : (b c : Bool) → c ≡ false → (b || c) ≡ b
or_nothing true c h = refl
or_nothing false c h = h

-- no run has the time where all are over before it
pub all_over : (rs : List Run) (t : ℤ) → ((k : ℕ) (d : Run) → k < length rs → int_lt (get_or rs k d).max_time t ≡ true) → false ≡ span_any rs t
all_over [] t f = refl
all_over (r ∷ rs) t f =
    all_over rs t (λ k d l. f (suc k) d (omega arith))
    ∙ ap (λ (b : Bool). b || span_any rs t) (sym (ended r.min_time r.max_time t (f zero r (omega arith))))

-- the first run that is not over before the time has it, or none does
pub first_open : (rs : List Run) (n : ℕ) (t : ℤ) (d : Run) → AreApart rs → n < length rs → ((k : ℕ) (d : Run) → k < n → int_lt (get_or rs k d).max_time t ≡ true)
    → int_lt (get_or rs n d).max_time t ≡ false → int_le (get_or rs n d).min_time t ≡ span_any rs t
first_open [] n t d a lt f o = absurd (omega arith)
first_open (h ∷ hs) zero t d a lt f o =
    sym (open_still h.min_time h.max_time t o)
    ∙ sym (or_nothing (int_le h.min_time t && int_le t h.max_time) (span_any hs t) (none_to h.max_time t hs a.2 a.1 (not_past h.max_time t o)))
first_open (h ∷ hs) (suc n) t d a lt f o =
    first_open hs n t d a.2 (omega arith) (λ k d l. f (suc k) d (omega arith)) o
    ∙ ap (λ (b : Bool). b || span_any hs t) (sym (ended h.min_time h.max_time t (f zero h (omega arith))))
