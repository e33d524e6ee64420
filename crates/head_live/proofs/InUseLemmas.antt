-- Numbers that are in use, and their indices.
use Rattle.std.proofs.Common.{◌≡◌, ◌≢◌, ◌⊎◌, ℕ, zero, suc, ◌+◌, ◌<◌, ◌≤◌, List, [], ◌∷◌, ◌++◌, Some, inl, inr, refl, sym, ap, subst, ◌∙◌, arith, length, length-append, get_or, set}
use Rattle.std.specs.Prelude.{slice_get}
use Rattle.std.proofs.lemmas.List.{get_or-set_other, get_or-set_same, length-set}
use Rattle.std.proofs.lemmas.Option.{get_or_from_slice_get, slice_get-get_or, slice_get_within}
use Rattle.head_live.specs.InUse.{AreIndexed, AreOnce, IsMoreBy}

pub once_of : (indices numbers : List ℕ) → AreIndexed indices numbers → AreOnce numbers
once_of indices numbers h i j n a b = (let e = h i n a in let f = h j n b in let g : Some i ≡ Some j = sym e ∙ f in cc)

-- an element of a list with one more
pub got_of : {A : Type 0} (xs : List A) (y x : A) (i : ℕ) → slice_get (xs ++ y ∷ []) i ≡ Some x → (slice_get xs i ≡ Some x) ⊎ ((i ≡ length xs) × (x ≡ y))
got_of [] y x zero h = inr (refl, (let e : Some y ≡ Some x = h in cc))
got_of [] y x (suc i) h = absurd cc
got_of (z ∷ xs) y x zero h = inl h
got_of (z ∷ xs) y x (suc i) h = deeper (got_of xs y x i h) where
  deeper : (slice_get xs i ≡ Some x) ⊎ ((i ≡ length xs) × (x ≡ y)) → (slice_get xs i ≡ Some x) ⊎ ((suc i ≡ suc (length xs)) × (x ≡ y))
  deeper (inl e) = inl e
  deeper (inr e) = inr (ap suc e.0, e.1)

-- an element stays where one more comes
pub got_more : {A : Type 0} (xs ys : List A) (x : A) (i : ℕ) → slice_get xs i ≡ Some x → slice_get (xs ++ ys) i ≡ Some x
got_more [] ys x i h = absurd cc
got_more (z ∷ xs) ys x zero h = h
got_more (z ∷ xs) ys x (suc i) h = got_more xs ys x i h

pub got_last : {A : Type 0} (xs : List A) (x : A) → slice_get (xs ++ x ∷ []) (length xs) ≡ Some x
got_last [] x = refl
got_last (z ∷ xs) x = got_last xs x

pub got_kept : {A : Type 0} (n : A) (before after : List A) (x : A) (i : ℕ) → (after ≡ before) ⊎ (after ≡ before ++ n ∷ []) → slice_get before i ≡ Some x → slice_get after i ≡ Some x
got_kept n before after x i (inl e) h = subst (λ xs. slice_get xs i ≡ Some x) (sym e) h
got_kept n before after x i (inr e) h = subst (λ xs. slice_get xs i ≡ Some x) (sym e) (got_more before (n ∷ []) x i h)

-- a number more, with its index
pub indexed_more : (indices numbers changed pushed : List ℕ) (n : ℕ) → AreIndexed indices numbers → n < length indices → (slice_get numbers (get_or indices n 0) ≡ Some n → ⊥)
    → changed ≡ set indices n (length numbers) → pushed ≡ numbers ++ n ∷ [] → AreIndexed changed pushed
indexed_more indices numbers changed pushed n h within new c p i m got = by (got_of numbers n m i (subst (λ xs. slice_get xs i ≡ Some m) p got)) where
  last : slice_get changed n ≡ Some (length numbers)
  last =
      let long : n < length changed = omega (arith, within, ap length c, length-set indices n (length numbers)) in
      slice_get-get_or changed n 0 long ∙ ap Some (ap (λ xs. get_or xs n 0) c ∙ get_or-set_same indices n (length numbers) 0 within)

  other : m ≢ n → slice_get indices m ≡ Some i → slice_get changed m ≡ Some i
  other apart e =
      let short : m < length indices = slice_get_within indices m i e in
      let long : m < length changed = omega (arith, short, ap length c, length-set indices n (length numbers)) in
      slice_get-get_or changed m 0 long ∙ ap Some (ap (λ xs. get_or xs m 0) c ∙ get_or-set_other indices n m (length numbers) 0 apart ∙ get_or_from_slice_get indices m i 0 e)

  apart : slice_get numbers i ≡ Some m → m ≡ n → ⊥
  apart e same =
      let at : get_or indices n 0 ≡ i = get_or_from_slice_get indices n i 0 (subst (λ k. slice_get indices k ≡ Some i) same (h i m e)) in
      new (ap (slice_get numbers) at ∙ e ∙ ap Some same)

  by : (slice_get numbers i ≡ Some m) ⊎ ((i ≡ length numbers) × (m ≡ n)) → slice_get changed m ≡ Some i
  by (inl e) = other (apart e) (h i m e)
  by (inr e) = ap (slice_get changed) e.1 ∙ last ∙ ap Some (sym e.0)

pub few_more : (n : ℕ) (before after : List ℕ) → IsMoreBy n before after → length after ≤ length before + 1
few_more n before after (inl e) = omega (arith, ap length e)
few_more n before after (inr e) = omega (arith, ap length e, length-append before (n ∷ []))
