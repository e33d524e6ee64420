-- One bit more in a list of words.
use Rattle.std.proofs.Common.{arith, ◌≡◌, ℕ, ◌<◌, ◌/◌, ◌%◌, ◌||◌, Bool, true, false, List, length, nat_eq, refl, sym, ap, ◌∙◌}
use Rattle.std.specs.Prelude.{slice_index, slice_set}
use Rattle.std.proofs.lemmas.Bool.{eqb-true}
use Rattle.std.proofs.lemmas.List.{get_or-set_other, get_or-set_same}
use Rattle.wal_survey.specs.ReferenceSets.{is_set, is_set_in}

-- references of one word are the same exactly if their bits are
same_bit : (r n : ℕ) → r / 64 ≡ n / 64 → nat_eq (r % 64) (n % 64) ≡ nat_eq r n
same_bit r n e = grind (arith, e)

other_bit : (r n : ℕ) → nat_eq (r / 64) (n / 64) ≡ false → nat_eq r n ≡ false
other_bit r n e = grind (arith, e)

pub bit_more : (words : List ℕ) (n w : ℕ) → n / 64 < length words → ((k : ℕ) → is_set w k ≡ (nat_eq k (n % 64) || is_set (slice_index words (n / 64)) k)) → (r : ℕ)
    → is_set_in (slice_set words (n / 64) w) r ≡ (nat_eq r n || is_set_in words r)
bit_more words n w within is r = by (nat_eq (r / 64) (n / 64)) refl where
  by : (b : Bool) → nat_eq (r / 64) (n / 64) ≡ b → is_set_in (slice_set words (n / 64) w) r ≡ (nat_eq r n || is_set_in words r)
  by true e =
      let here : r / 64 ≡ n / 64 = eqb-true (r / 64) (n / 64) e in
      ap (λ a. is_set (slice_index (slice_set words (n / 64) w) a) (r % 64)) here
      ∙ ap (λ v. is_set v (r % 64)) (get_or-set_same words (n / 64) w 0 within)
      ∙ is (r % 64)
      ∙ ap (λ b. b || is_set (slice_index words (n / 64)) (r % 64)) (same_bit r n here)
      ∙ ap (λ a. nat_eq r n || is_set (slice_index words a) (r % 64)) (sym here)
  by false e =
      ap (λ v. is_set v (r % 64)) (get_or-set_other words (n / 64) (r / 64) w 0 (λ here. grind (arith, here, e)))
      ∙ ap (λ b. b || is_set_in words r) (sym (other_bit r n e))
