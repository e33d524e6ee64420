-- A deal with one slot more, of which no item speaks yet.
use Rattle.std.proofs.Common.{◌≡◌, ℕ, zero, suc, ◌+◌, ◌<◌, ◌==◌, false, List, [], ◌∷◌, ◌++◌, length, map, replicate, refl, sym, ap, ◌∙◌, arith}
use Rattle.std.specs.Prelude.{All, if◌then◌else◌}
use Rattle.std.specs.List.{enumerate_from}
use Rattle.std.proofs.lemmas.Bool.Decides.{nat_tests}
use Rattle.std.proofs.lemmas.List.{map-append}
use Rattle.head_deal.specs.Jobs.{State, Finished}
use Rattle.head_deal.specs.Endings.{item_at, told_of, with_outcome_of, outcomes}
use Rattle.head_deal.specs.Dealing.{Dealing, course, end_slots, end_jobs}
use Rattle.head_column.specs.declared.items.Item.{Item}
use Rattle.head_column.specs.declared.items.Outcome.{Outcome}
use Rattle.head_resolver.specs.declared.counts.Counts.{Counts}
use Rattle.head_core.specs.Applied.{values_after, outcomes_after}
use Rattle.replay_rounds.specs.Applying.{Ends}

pub numbered_more : {V : Type 0} (m n : ℕ) (v : V) → enumerate_from m (replicate (suc n) v) ≡ enumerate_from m (replicate n v) ++ (m + n, v) ∷ []
numbered_more m zero v = let e : m ≡ m + 0 = omega arith in ap (λ k. (k, v) ∷ []) e
numbered_more m (suc n) v =
    let e : (m + 1) + n ≡ m + suc n = omega arith in
    ap (λ ps. (m, v) ∷ ps) (numbered_more (m + 1) n v) ∙ ap (λ k. (m, v) ∷ (enumerate_from (m + 1) (replicate n v) ++ (k, v) ∷ [])) e

length_more : {A : Type 0} (xs : List A) (x : A) → length (xs ++ x ∷ []) ≡ suc (length xs)
length_more [] x = refl
length_more (y ∷ xs) x = ap suc (length_more xs x)

module _ {V I O : Type 0} (after : V → I → V) (outcome : V → I → O) where
  item_passes : (s n : ℕ) (i : I) (v : V) → s < n → item_at after s i (n, v) ≡ (n, v)
  item_passes s n i v lt =
      let other : (n == s) ≡ false = grind (arith, nat_tests, lt) in
      rw other refl

  items_pass : (s n : ℕ) (i : I) (v : V) (slots : List (ℕ × V)) → s < n → map (item_at after s i) (slots ++ (n, v) ∷ []) ≡ map (item_at after s i) slots ++ (n, v) ∷ []
  items_pass s n i v slots lt = map-append (item_at after s i) slots ((n, v) ∷ []) ∙ ap (λ p. map (item_at after s i) slots ++ p ∷ []) (item_passes s n i v lt)

  told_passes : (s n : ℕ) (i : I) (v : V) (slots : List (ℕ × V)) → s < n → told_of outcome s i (slots ++ (n, v) ∷ []) ≡ told_of {O = O} outcome s i slots
  told_passes s n i v [] lt =
      let other : (n == s) ≡ false = grind (arith, nat_tests, lt) in
      rw other refl
  told_passes s n i v (p ∷ slots) lt = ap (λ t. if p.0 == s then Finished (outcome p.1 i) else t) (told_passes s n i v slots lt)

  pub values_beyond : (n : ℕ) (v : V) (slots : List (ℕ × V)) (ks : List (ℕ × I)) → All (λ k. k.0 < n) ks → values_after after (slots ++ (n, v) ∷ []) ks ≡ values_after after slots ks ++ (n, v) ∷ []
  values_beyond n v slots [] h = refl
  values_beyond n v slots (k ∷ ks) h =
      ap (λ ps. values_after after ps ks) (items_pass k.0 n k.1 v slots (h 0 k (omega arith)))
      ∙ values_beyond n v (map (item_at after k.0 k.1) slots) ks (λ i d lt. h (suc i) d (omega (arith, lt)))

  pub outcomes_beyond : (n : ℕ) (v : V) (slots : List (ℕ × V)) (ks : List (ℕ × I)) → All (λ k. k.0 < n) ks → outcomes_after after outcome (slots ++ (n, v) ∷ []) ks ≡ outcomes_after after outcome slots ks
  outcomes_beyond n v slots [] h = refl
  outcomes_beyond n v slots (k ∷ ks) h =
      ap (λ ps. with_outcome_of (told_of outcome k.0 k.1 (slots ++ (n, v) ∷ [])) (outcomes_after after outcome ps ks)) (items_pass k.0 n k.1 v slots (h 0 k (omega arith)))
      ∙ ap (λ (t : State I O). with_outcome_of t (outcomes_after after outcome (map (item_at after k.0 k.1) slots ++ (n, v) ∷ []) ks)) (told_passes k.0 n k.1 v slots (h 0 k (omega arith)))
      ∙ ap (with_outcome_of (told_of outcome k.0 k.1 slots)) (outcomes_beyond n v (map (item_at after k.0 k.1) slots) ks (λ i d lt. h (suc i) d (omega (arith, lt))))

module _ {B V : Type 0} (value : B → V) (after : V → Item → V) (outcome : V → Item → Outcome) where
  pub ends_grown : (n : ℕ) (v : V) (b : B) (items : List (ℕ × Item)) (d e : Dealing B Item Outcome) (c : Counts) → length d.builders ≡ n → value b ≡ v → All (λ k. k.0 < n) items → e ≡ record d { builders = d.builders ++ b ∷ [] }
      → end_slots after (course value e) ≡ end_slots after (course value d) ++ (length d.builders, value b) ∷ [] → end_jobs after outcome (course value e) ≡ end_jobs after outcome (course value d)
      → Ends value after outcome (enumerate_from 0 (replicate n v)) items d c → Ends value after outcome (enumerate_from 0 (replicate (length e.builders) v)) items e c
  ends_grown n v b items d e c long blank low added slots_are jobs_are h =
      let before : List (ℕ × V) = enumerate_from 0 (replicate n v) in
      let zero_more : 0 + n ≡ n = omega arith in
      let count : length e.builders ≡ suc n = ap (λ (x : Dealing B Item Outcome). length x.builders) added ∙ length_more d.builders b ∙ ap suc long in
      let now : enumerate_from 0 (replicate (length e.builders) v) ≡ before ++ (n, v) ∷ [] = ap (λ (k : ℕ). enumerate_from 0 (replicate k v)) count ∙ numbered_more 0 n v ∙ ap (λ (k : ℕ). before ++ (k, v) ∷ []) zero_more in
      record {
        values =
            slots_are
            ∙ ap (λ ps. ps ++ (length d.builders, value b) ∷ []) h.values
            ∙ ap (λ (k : ℕ). values_after after before items ++ (k, value b) ∷ []) long
            ∙ ap (λ (x : V). values_after after before items ++ (n, x) ∷ []) blank
            ∙ sym (values_beyond after outcome n v before items low)
            ∙ ap (λ ps. values_after after ps items) (sym now);
        counted = h.counted;
        outcomes =
            ap (λ js. h.counted ++ outcomes js) jobs_are
            ∙ h.outcomes
            ∙ sym (outcomes_beyond after outcome n v before items low)
            ∙ ap (λ ps. outcomes_after after outcome ps items) (sym now);
        counts = h.counts;
      }
