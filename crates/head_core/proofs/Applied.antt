-- Items that are applied to slots one after another: what each slot has, and what becomes of the next item.
use Rattle.std.proofs.Common.{◌≡◌, ℕ, zero, suc, ◌+◌, ◌<◌, ◌≤◌, ◌==◌, ◌⊎◌, inl, inr, Bool, true, false, List, [], ◌∷◌, ◌++◌, Some, ap, ◌∙◌, refl, subst, arith, length, replicate, eqb-true}
use Rattle.std.specs.Prelude.{map, filter, nat_eq, slice_get, if◌then◌else◌}
use Rattle.std.specs.List.{enumerate_from, fold, AllZip}
use Rattle.std.proofs.lemmas.Bool.{cases_lt, eqb-false}
use Rattle.std.proofs.Math.Path.{fun_ext}
use Rattle.head_deal.specs.Jobs.{State, Queued, Finished}
use Rattle.head_deal.specs.Endings.{item_at, told_of, with_outcome_of}
use Rattle.head_core.specs.Applied.{values_after, outcomes_after}

-- n slots from slot m on, with the values that f gives
abbrev pub slots_by : {V : Type 0} → (ℕ → V) → ℕ → ℕ → List (ℕ × V)
slots_by f m zero = []
slots_by f m (suc n) = (m, f m) ∷ slots_by f (m + 1) n

-- the items at the slot
abbrev pub at_slot : {I : Type 0} → ℕ → List (ℕ × I) → List I
at_slot s ks = map (λ k. k.1) (filter (λ k. nat_eq s k.0) ks)

-- new slots
pub slots_by-replicate : {V : Type 0} (v : V) (m n : ℕ) → enumerate_from m (replicate n v) ≡ slots_by (λ s. v) m n
slots_by-replicate v m zero = refl
slots_by-replicate v m (suc n) = ap (λ ps. (m, v) ∷ ps) (slots_by-replicate v (m + 1) n)

-- what holds of each element with the value of its place holds of all of them with the slots' values
pub slots_by-AllZip : {A V : Type 0} (P : A → V → Type 0) (f : ℕ → V) (m : ℕ) (xs : List A) → ((s : ℕ) (x : A) → slice_get xs s ≡ Some x → P x (f (m + s))) → AllZip P xs (map (λ p. p.1) (slots_by f m (length xs)))
slots_by-AllZip P f m [] h = tt
slots_by-AllZip P f m (x ∷ xs) h = (
  subst (λ n. P x (f n)) (let here : m + 0 ≡ m = omega arith in here) (h zero x refl),
  slots_by-AllZip P f (m + 1) xs (λ s y e. subst (λ n. P y (f n)) (let there : m + suc s ≡ (m + 1) + s = omega arith in there) (h (suc s) y e)),
)

module _ {V I : Type 0} (after : V → I → V) where
  -- one item more
  abbrev put : (ℕ → V) → ℕ × I → ℕ → V
  put f k s = if s == k.0 then after (f s) k.1 else f s

  item_at-slots_by : (f : ℕ → V) (k : ℕ × I) (m n : ℕ) → map (item_at after k.0 k.1) (slots_by f m n) ≡ slots_by (put f k) m n
  item_at-slots_by f k m zero = refl
  item_at-slots_by f k m (suc n) = ap (λ ps. (m, put f k m) ∷ ps) (item_at-slots_by f k (m + 1) n)

  -- Each slot has what its own items make, one after another.
  pub values_after-slots_by : (f : ℕ → V) (m n : ℕ) (ks : List (ℕ × I)) → values_after after (slots_by f m n) ks ≡ slots_by (λ s. fold after (f s) (at_slot s ks)) m n
  values_after-slots_by f m n [] = refl
  values_after-slots_by f m n (k ∷ ks) =
      ap (λ (ps : List (ℕ × V)). values_after after ps ks) (item_at-slots_by f k m n)
      ∙ values_after-slots_by (put f k) m n ks
      ∙ ap (λ (g : ℕ → V). slots_by g m n) (fun_ext (λ s. by s (nat_eq s k.0)))
    where
      by : (s : ℕ) (b : Bool) → fold after (if b then after (f s) k.1 else f s) (at_slot s ks) ≡ fold after (f s) (map (λ (j : ℕ × I). j.1) (if b then k ∷ filter (λ j. nat_eq s j.0) ks else filter (λ j. nat_eq s j.0) ks))
      by s true = refl
      by s false = refl

  module _ {O : Type 0} (outcome : V → I → O) where
    -- items, and then more
    pub outcomes_after-append : (slots : List (ℕ × V)) (xs ys : List (ℕ × I)) → outcomes_after after outcome slots (xs ++ ys) ≡ outcomes_after after outcome slots xs ++ outcomes_after after outcome (values_after after slots xs) ys
    outcomes_after-append slots [] ys = refl
    outcomes_after-append slots (x ∷ xs) ys =
        ap (with_outcome_of (told_of outcome x.0 x.1 slots)) (outcomes_after-append (map (item_at after x.0 x.1) slots) xs ys)
        ∙ by
        (told_of outcome x.0 x.1 slots)
        (outcomes_after after outcome (map (item_at after x.0 x.1) slots) xs)
        (outcomes_after after outcome (values_after after (map (item_at after x.0 x.1) slots) xs) ys)
      where
        by : (state : State I O) (os more : List O) → with_outcome_of state (os ++ more) ≡ with_outcome_of state os ++ more
        by (Queued i) os more = refl
        by (Finished o) os more = refl

    told_at : (f : ℕ → V) (s : ℕ) (i : I) (m n : ℕ) → m ≤ s → s < m + n → told_of outcome s i (slots_by f m n) ≡ Finished (outcome (f s) i)
    told_at f s i m zero from to = absurd (omega arith)
    told_at f s i m (suc n) from to = by (m == s) refl (told_at f s i (m + 1) n) where
      past : (m == s) ≡ false → (m < s) ⊎ (s ≤ m) → m + 1 ≤ s
      past e (inl l) = omega arith
      past e (inr l) = absurd (eqb-false m s e (omega arith))

      by : (b : Bool) → (m == s) ≡ b → (m + 1 ≤ s → s < (m + 1) + n → told_of outcome s i (slots_by f (m + 1) n) ≡ Finished (outcome (f s) i))
          → (if b then Finished (outcome (f m) i) else told_of outcome s i (slots_by f (m + 1) n)) ≡ Finished (outcome (f s) i)
      by true e rest = ap (λ (k : ℕ). Finished (outcome (f k) i)) (eqb-true m s e)
      by false e rest = rest (past e (cases_lt m s)) (omega arith)

    -- an item of one of the slots
    pub outcomes_after-one : (f : ℕ → V) (n s : ℕ) (i : I) → s < n → outcomes_after after outcome (slots_by f 0 n) ((s, i) ∷ []) ≡ outcome (f s) i ∷ []
    outcomes_after-one f n s i within = ap (λ (state : State I O). with_outcome_of state []) (told_at f s i 0 n (omega arith) (omega arith))
