-- Chains: each element with the one that follows it, as a loop over places goes through them.
use Rattle.std.specs.Prelude.{◌&&◌, ℤ, ◌<ℤ◌, int_lt}
use Rattle.std.specs.Ordering.{is_lt}
use Rattle.std.specs.declared.cmp.Ordering.{Ordering}
use Rattle.std.specs.declared.cmp.Ordering.TheVariants.{Less, Equal, Greater}
use Rattle.std.proofs.lemmas.Int.{ints}
use Rattle.wal_record.specs.Labels.{compare_labels}
use Rattle.index_text.specs.declared.row.ChunkMeta.{ChunkMeta}
use Rattle.index_text.specs.declared.row.IndexRow.{IndexRow}
use Rattle.std.proofs.Common.{◌≡◌, ℕ, ◌+◌, ◌-◌, ◌<◌, ◌≤◌, Bool, true, false, List, [], ◌∷◌, length, get_or, drop, refl, sym, ap, subst, ◌∙◌, arith}
use Rattle.std.proofs.lemmas.List.{drop_more, length-drop}
use Rattle.index_text.specs.Rows.{IsChain}
use Rattle.index_text.specs.Tests.{chain_test, comes_before, ends_before}

short_chain : {X : Type 0} (r : X → X → Bool) (xs : List X) → length xs ≤ 1 → chain_test r xs ≡ true
short_chain r [] le = refl
short_chain r (x ∷ []) le = refl
short_chain r (x ∷ y ∷ more) le = absurd (omega (arith, le))

module _ {X : Type 0} (r : X → X → Bool) (xs : List X) where
  two : (i : ℕ) (x y : X) → i + 1 < length xs → x ≡ get_or xs i x → y ≡ get_or xs (i + 1) y → chain_test r (drop i xs) ≡ (r x y && chain_test r (drop (i + 1) xs))
  two i x y lt e f =
      let second : drop (i + 1) xs ≡ y ∷ drop (i + 1 + 1) xs = drop_more xs (i + 1) y lt ∙ ap (λ z. z ∷ drop (i + 1 + 1) xs) (sym f) in
      let first : drop i xs ≡ x ∷ drop (i + 1) xs = drop_more xs i x (omega (arith, lt)) ∙ ap (λ z. z ∷ drop (i + 1) xs) (sym e) in
      ap (chain_test r) (first ∙ ap (λ t. x ∷ t) second) ∙ ap (λ t. r x y && chain_test r t) (sym second)

  pub chain_on : (i : ℕ) (x y : X) → 0 < i → i < length xs → x ≡ get_or xs (i - 1) x → y ≡ get_or xs i y → r x y ≡ true → chain_test r xs ≡ chain_test r (drop (i - 1) xs) → chain_test r xs ≡ chain_test r (drop (i + 1 - 1) xs)
  chain_on i x y some lt e f t so_far =
      let back : i - 1 + 1 ≡ i = omega (arith, some) in
      let on : i + 1 - 1 ≡ i = omega arith in
      so_far ∙ two (i - 1) x y (omega (arith, some, lt)) e (subst (λ k. y ≡ get_or xs k y) (sym back) f) ∙ ap (λ b. b && chain_test r (drop (i - 1 + 1) xs)) t ∙ ap (λ k. chain_test r (drop k xs)) (back ∙ sym on)

  pub chain_broken : (i : ℕ) (x y : X) → 0 < i → i < length xs → x ≡ get_or xs (i - 1) x → y ≡ get_or xs i y → r x y ≡ false → chain_test r xs ≡ chain_test r (drop (i - 1) xs) → false ≡ chain_test r xs
  chain_broken i x y some lt e f t so_far =
      let back : i - 1 + 1 ≡ i = omega (arith, some) in
      sym (so_far ∙ two (i - 1) x y (omega (arith, some, lt)) e (subst (λ k. y ≡ get_or xs k y) (sym back) f) ∙ ap (λ b. b && chain_test r (drop (i - 1 + 1) xs)) t)

  pub chain_whole : (i : ℕ) → length xs ≤ i → chain_test r xs ≡ chain_test r (drop (i - 1) xs) → true ≡ chain_test r xs
  chain_whole i le so_far = sym (so_far ∙ short_chain r (drop (i - 1) xs) (short i le))
    where
      short : (k : ℕ) → length xs ≤ k → length (drop (k - 1) xs) ≤ 1
      short k h = omega (arith, length-drop (k - 1) xs, h)

lt_from : (a b : ℤ) → int_lt a b ≡ true → a <ℤ b
lt_from a b e = omega (arith, ints, e)

lt_to : (a b : ℤ) → a <ℤ b → int_lt a b ≡ true
lt_to a b e = grind (arith, ints)

-- the test is that of a relation
pub chain_from : {X : Type 0} (r : X → X → Bool) (P : X → X → Type 0) → ((x y : X) → r x y ≡ true → P x y) → (xs : List X) → chain_test r xs ≡ true → IsChain P xs
chain_from r P f [] t = tt
chain_from r P f (x ∷ []) t = tt
chain_from r P f (x ∷ y ∷ more) t = by (r x y) refl t (λ h. chain_from r P f (y ∷ more) h)
  where
    by : (b : Bool) → r x y ≡ b → (b && chain_test r (y ∷ more)) ≡ true → (chain_test r (y ∷ more) ≡ true → IsChain P (y ∷ more)) → IsChain P (x ∷ y ∷ more)
    by true e h rest = (f x y e, rest h)
    by false e h rest = absurd cc

pub chain_to : {X : Type 0} (r : X → X → Bool) (P : X → X → Type 0) → ((x y : X) → P x y → r x y ≡ true) → (xs : List X) → IsChain P xs → chain_test r xs ≡ true
chain_to r P f [] h = refl
chain_to r P f (x ∷ []) h = refl
chain_to r P f (x ∷ y ∷ more) h = rw (f x y h.0) (chain_to r P f (y ∷ more) h.1)

less_from : (o : Ordering) → is_lt o ≡ true → o ≡ Less
less_from Less e = refl
less_from Equal e = absurd cc
less_from Greater e = absurd cc

pub apart_from : (cs : List ChunkMeta) → chain_test ends_before cs ≡ true → IsChain (λ (a b : ChunkMeta). a.max_time <ℤ b.min_time) cs
apart_from cs t = chain_from ends_before (λ (a b : ChunkMeta). a.max_time <ℤ b.min_time) (λ a b e. lt_from a.max_time b.min_time e) cs t

pub apart_to : (cs : List ChunkMeta) → IsChain (λ (a b : ChunkMeta). a.max_time <ℤ b.min_time) cs → chain_test ends_before cs ≡ true
apart_to cs h = chain_to ends_before (λ (a b : ChunkMeta). a.max_time <ℤ b.min_time) (λ a b e. lt_to a.max_time b.min_time e) cs h

pub ascending_from : (rows : List IndexRow) → chain_test comes_before rows ≡ true → IsChain (λ (a b : IndexRow). compare_labels a.labels b.labels ≡ Less) rows
ascending_from rows t = chain_from comes_before (λ (a b : IndexRow). compare_labels a.labels b.labels ≡ Less) (λ a b e. less_from (compare_labels a.labels b.labels) e) rows t

pub ascending_to : (rows : List IndexRow) → IsChain (λ (a b : IndexRow). compare_labels a.labels b.labels ≡ Less) rows → chain_test comes_before rows ≡ true
ascending_to rows h = chain_to comes_before (λ (a b : IndexRow). compare_labels a.labels b.labels ≡ Less) (λ a b e. ap is_lt e) rows h
