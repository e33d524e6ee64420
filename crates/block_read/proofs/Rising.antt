-- Times that rise, compared one by one.
use Rattle.std.proofs.Common.{◌≡◌, ℕ, zero, suc, ◌+◌, ◌-◌, ◌<◌, ◌≤◌, List, [], ◌∷◌, length, take, get_or, sym, ap, subst, ◌∙◌, arith}
use Rattle.std.specs.Prelude.{ℤ, ◌<ℤ◌}
use Rattle.std.proofs.lemmas.List.{get_or-take, length-take-le, take_more}
use Rattle.head_column.specs.Samples.{Sample}
use Rattle.head_column.specs.Samples.{Rises}
use Rattle.head_column.specs.Chunks.{last_time}
use Rattle.block_files.proofs.RowLaws.{whole}
use Rattle.block_read.proofs.Columns.{last_is, rises_join}

-- the first samples rise, and so do they with one more that is later than the last of them
pub rise_more : (xs : List Sample) (i : ℕ) (d : Sample) (before next : ℤ) → 1 ≤ i → i < length xs → before ≡ (get_or xs (i - 1) d).time → next ≡ (get_or xs i d).time → before <ℤ next → Rises (take i xs) → Rises (take (i + 1) xs)
rise_more xs i d before next some lt b n later h =
    let long : length (take i xs) ≡ i = length-take-le i xs (omega (arith, lt)) in
    let last : last_time (take i xs) ≡ (get_or xs (i - 1) d).time =
    last_is (take i xs) d (omega (arith, long, some)) ∙ ap (λ (k : ℕ). (get_or (take i xs) (k - 1) d).time) long ∙ ap (λ (s : Sample). s.time) (get_or-take i xs (i - 1) d (omega (arith, some))) in
    subst Rises (sym (take_more xs i d lt)) (rises_join (take i xs) (get_or xs i d ∷ []) h tt (λ begun. subst (λ t. t <ℤ (get_or xs i d).time) (b ∙ sym last) (subst (λ t. before <ℤ t) n later)))

rise_next : (xs : List Sample) (i : ℕ) (d : Sample) → suc i < length xs → Rises xs → (get_or xs i d).time <ℤ (get_or xs (suc i) d).time
rise_next [] i d lt h = absurd (omega (arith, lt))
rise_next (x ∷ []) i d lt h = absurd (omega (arith, lt))
rise_next (x ∷ y ∷ xs) zero d lt h = h.0
rise_next (x ∷ y ∷ xs) (suc i) d lt h = rise_next (y ∷ xs) i d (omega (arith, lt)) h.1

pub rise_at : (xs : List Sample) (i : ℕ) (d : Sample) (before next : ℤ) → 1 ≤ i → i < length xs → before ≡ (get_or xs (i - 1) d).time → next ≡ (get_or xs i d).time → Rises xs → before <ℤ next
rise_at xs i d before next some lt b n h =
    let at : suc (i - 1) ≡ i = omega (arith, some) in
    let later = subst (λ k. (get_or xs (i - 1) d).time <ℤ (get_or xs k d).time) at (rise_next xs (i - 1) d (omega (arith, some, lt)) h) in
    subst (λ t. t <ℤ next) (sym b) (subst (λ t. (get_or xs (i - 1) d).time <ℤ t) (sym n) later)

pub rise_all : (xs : List Sample) (i : ℕ) → length xs ≤ i → Rises (take i xs) → Rises xs
rise_all xs i le h = subst Rises (whole xs i le) h

pub rise_first : (xs : List Sample) → Rises (take 1 xs)
rise_first [] = tt
rise_first (x ∷ xs) = tt
