-- Ascending lists and their unions.
use Rattle.std.proofs.Common.{◌≡◌, ℕ, zero, suc, ◌+◌, ◌<◌, Bool, true, false, List, [], ◌∷◌, ◌++◌, ap, sym, subst, ◌∙◌, refl, arith, append_assoc, inl, inr, length, drop, get_or, ◌≤◌}
use Rattle.std.specs.Prelude.{◌||◌, ◌⊎◌, if◌then◌else◌}
use Rattle.std.specs.List.{list_any}
use Rattle.std.proofs.lemmas.List.Folds.{list_any-append}
use Rattle.std.proofs.lemmas.List.{drop_all}
use Rattle.hw_bytes.proofs.Lists.{append_none}
use Rattle.wal_record.specs.Labels.{same_text}
use Rattle.wal_record.proofs.SameText.{same_text_exact}
use Rattle.head_postings.specs.Postings.{Text, listed}
use Rattle.head_postings.specs.Slots.{AreAbove, IsAscending, IsUnion}
use Rattle.head_postings.proofs.Listed.{IsPut}

-- What is done of a union: u is the part that is finished, and xs and ys are what is left of the two lists.
pub record IsPart (first second u xs ys : List ℕ) : Type 0 where
  pub left : IsAscending (u ++ xs)
  pub right : IsAscending (u ++ ys)
  pub both : (test : ℕ → Bool) → (list_any test u || (list_any test xs || list_any test ys)) ≡ (list_any test first || list_any test second)

pub part_first : (first second : List ℕ) → IsAscending first → IsAscending second → IsPart first second [] first second
part_first first second a b = record { left = a; right = b; both = λ test. refl }

above_above : (s t : ℕ) (ts : List ℕ) → s < t → AreAbove t ts → AreAbove s ts
above_above s t [] h a = tt
above_above s t (u ∷ ts) h (a, b) = (omega arith, above_above s t ts h b)

-- the lesser of two goes before the other
put_above : (a x y : ℕ) (u ys zs : List ℕ) → AreAbove a (u ++ x ∷ ys) → AreAbove a (u ++ zs) → AreAbove a (u ++ x ∷ zs)
put_above a x y [] ys zs p q = (p.0, q)
put_above a x y (b ∷ u) ys zs p q = (p.0, put_above a x y u ys zs p.1 q.1)

put_before : (u : List ℕ) (x y : ℕ) (xs ys : List ℕ) → x < y → IsAscending (u ++ x ∷ xs) → IsAscending (u ++ y ∷ ys) → IsAscending (u ++ x ∷ y ∷ ys)
put_before [] x y xs ys h a b = ((h, above_above x y ys h b.0), b)
put_before (c ∷ u) x y xs ys h a b = (put_above c x y u xs (y ∷ ys) a.0 b.0, put_before u x y xs ys h a.1 b.1)

one_more : (u : List ℕ) (x : ℕ) (xs : List ℕ) → IsAscending (u ++ x ∷ xs) → IsAscending ((u ++ x ∷ []) ++ xs)
one_more u x xs a = subst IsAscending (sym (append_assoc u (x ∷ []) xs)) a

or_left : (u x xs ys : Bool) → ((u || (x || false)) || (xs || ys)) ≡ (u || ((x || xs) || ys))
or_left true x xs ys = refl
or_left false true xs ys = refl
or_left false false xs ys = refl

or_right : (u y xs ys : Bool) → ((u || (y || false)) || (xs || ys)) ≡ (u || (xs || (y || ys)))
or_right true y xs ys = refl
or_right false true true ys = refl
or_right false true false ys = refl
or_right false false xs ys = refl

or_both : (u x xs ys : Bool) → ((u || (x || false)) || (xs || ys)) ≡ (u || ((x || xs) || (x || ys)))
or_both true x xs ys = refl
or_both false true xs ys = refl
or_both false false xs ys = refl

pub part_left : (first second u : List ℕ) (x y : ℕ) (xs ys : List ℕ) → x < y → IsPart first second u (x ∷ xs) (y ∷ ys) → IsPart first second (u ++ x ∷ []) xs (y ∷ ys)
part_left first second u x y xs ys h p = record {
  left = one_more u x xs p.left;
  right = one_more u x (y ∷ ys) (put_before u x y xs ys h p.left p.right);
  both = λ test. ap (λ b. b || (list_any test xs || list_any test (y ∷ ys))) (list_any-append test u (x ∷ [])) ∙ or_left (list_any test u) (test x) (list_any test xs) (list_any test (y ∷ ys)) ∙ p.both test;
}

pub part_right : (first second u : List ℕ) (x y : ℕ) (xs ys : List ℕ) → y < x → IsPart first second u (x ∷ xs) (y ∷ ys) → IsPart first second (u ++ y ∷ []) (x ∷ xs) ys
part_right first second u x y xs ys h p = record {
  left = one_more u y (x ∷ xs) (put_before u y x ys xs h p.right p.left);
  right = one_more u y ys p.right;
  both = λ test. ap (λ b. b || (list_any test (x ∷ xs) || list_any test ys)) (list_any-append test u (y ∷ [])) ∙ or_right (list_any test u) (test y) (list_any test (x ∷ xs)) (list_any test ys) ∙ p.both test;
}

pub part_both : (first second u : List ℕ) (x y : ℕ) (xs ys : List ℕ) → x ≡ y → IsPart first second u (x ∷ xs) (y ∷ ys) → IsPart first second (u ++ x ∷ []) xs ys
part_both first second u x y xs ys e p = record {
  left = one_more u x xs p.left;
  right = one_more u x ys (subst (λ z. IsAscending (u ++ z ∷ ys)) (sym e) p.right);
  both = λ test. ap (λ b. b || (list_any test xs || list_any test ys)) (list_any-append test u (x ∷ []))
      ∙ or_both (list_any test u) (test x) (list_any test xs) (list_any test ys)
      ∙ ap (λ z. list_any test u || ((test x || list_any test xs) || (test z || list_any test ys))) e
      ∙ p.both test;
}

-- one of the lists is at its end
pub part_last : (first second u : List ℕ) (xs ys : List ℕ) → (xs ≡ []) ⊎ (ys ≡ []) → IsPart first second u xs ys → IsUnion first second ((u ++ xs) ++ ys)
part_last first second u xs ys o p = (order o, λ test. list_any-append test (u ++ xs) ys ∙ ap (λ b. b || list_any test ys) (list_any-append test u xs) ∙ or_assoc (list_any test u) (list_any test xs) (list_any test ys) ∙ p.both test) where
  or_assoc : (a b c : Bool) → ((a || b) || c) ≡ (a || (b || c))
  or_assoc true b c = refl
  or_assoc false b c = refl

  order : (xs ≡ []) ⊎ (ys ≡ []) → IsAscending ((u ++ xs) ++ ys)
  order (inl e) = subst (λ z. IsAscending ((u ++ z) ++ ys)) (sym e) (subst (λ z. IsAscending (z ++ ys)) (sym (append_none u)) p.right)
  order (inr e) = subst (λ z. IsAscending ((u ++ xs) ++ z)) (sym e) (subst IsAscending (sym (append_none (u ++ xs))) p.left)

dropped : (xs : List ℕ) (i x : ℕ) → i < length xs → x ≡ get_or xs i x → drop i xs ≡ x ∷ drop (i + 1) xs
dropped xs i x h e = subst (λ n. drop i xs ≡ x ∷ drop n xs) (let k : suc i ≡ i + 1 = omega arith in k) (by xs i h e) where
  by : (ys : List ℕ) (j : ℕ) → j < length ys → x ≡ get_or ys j x → drop j ys ≡ x ∷ drop (suc j) ys
  by [] j h e = absurd (omega arith)
  by (y ∷ ys) zero h e = let k : x ≡ y = e in ap (λ z. z ∷ ys) (sym k)
  by (y ∷ ys) (suc j) h e = by ys j (omega arith) e

module _ (first second u v : List ℕ) (i j x y : ℕ) (in_first : i < length first) (in_second : j < length second) (left : x ≡ get_or first i x) (right : y ≡ get_or second j y)
    (p : IsPart first second u (drop i first) (drop j second)) where
  seen_both : IsPart first second u (x ∷ drop (i + 1) first) (y ∷ drop (j + 1) second)
  seen_both = subst (λ zs. IsPart first second u (x ∷ drop (i + 1) first) zs) (dropped second j y in_second right) (subst (λ zs. IsPart first second u zs (drop j second)) (dropped first i x in_first left) p)

  pub step_left : x < y → v ≡ u ++ x ∷ [] → IsPart first second v (drop (i + 1) first) (drop j second)
  step_left h e =
      subst (λ zs. IsPart first second v (drop (i + 1) first) zs) (sym (dropped second j y in_second right))
      (subst (λ z. IsPart first second z (drop (i + 1) first) (y ∷ drop (j + 1) second)) (sym e) (part_left first second u x y (drop (i + 1) first) (drop (j + 1) second) h seen_both))

  pub step_right : y < x → v ≡ u ++ y ∷ [] → IsPart first second v (drop i first) (drop (j + 1) second)
  step_right h e =
      subst (λ zs. IsPart first second v zs (drop (j + 1) second)) (sym (dropped first i x in_first left))
      (subst (λ z. IsPart first second z (x ∷ drop (i + 1) first) (drop (j + 1) second)) (sym e) (part_right first second u x y (drop (i + 1) first) (drop (j + 1) second) h seen_both))

  pub step_both : x ≡ y → v ≡ u ++ x ∷ [] → IsPart first second v (drop (i + 1) first) (drop (j + 1) second)
  step_both h e =
      subst (λ z. IsPart first second z (drop (i + 1) first) (drop (j + 1) second)) (sym e) (part_both first second u x y (drop (i + 1) first) (drop (j + 1) second) h seen_both)

-- once one of the lists is at its end
pub all_done : (first second u ends : List ℕ) (i j : ℕ) → (length first ≤ i) ⊎ (length second ≤ j) → IsPart first second u (drop i first) (drop j second) → ends ≡ (u ++ drop i first) ++ drop j second → IsUnion first second ends
all_done first second u ends i j o p e = subst (IsUnion first second) (sym e) (part_last first second u (drop i first) (drop j second) (at o) p) where
  at : (length first ≤ i) ⊎ (length second ≤ j) → (drop i first ≡ []) ⊎ (drop j second ≡ [])
  at (inl h) = inl (drop_all i first h)
  at (inr h) = inr (drop_all j second h)

or_none : (b : Bool) → (b || false) ≡ b
or_none true = refl
or_none false = refl

pub union_with_none : (xs : List ℕ) → IsAscending xs → IsUnion xs [] xs
union_with_none xs a = (a, λ test. sym (or_none (list_any test xs)))

pub union_of_none : (ys : List ℕ) → IsAscending ys → IsUnion [] ys ys
union_of_none ys a = (a, λ test. refl)

-- the list of t became the union of it and more
pub put_union : (t : Text) (o w more : List ℕ) (old new : List (Text × List ℕ)) → IsPut t w old new → listed old t ≡ o → IsUnion o more w → ((v : Text) → IsAscending (listed old v))
    → (v : Text) → IsUnion (listed old v) (if same_text v t then more else []) (listed new v)
put_union t o w more old new put was u a v = subst (λ z. IsUnion (listed old v) (if same_text v t then more else []) z) (sym (put v)) (at (same_text v t) refl) where
  at : (b : Bool) → same_text v t ≡ b → IsUnion (listed old v) (if b then more else []) (if b then w else listed old v)
  at true e = subst (λ z. IsUnion z more w) (sym was ∙ ap (listed old) (sym (same_text_exact v t e))) u
  at false e = union_with_none (listed old v) (a v)

-- What is merged so far: us with what is left to come, vs, has the members of xs and ys.
pub record IsUnionTo (xs ys us vs : List ℕ) : Type 0 where
  pub ascending : IsAscending us
  pub coming : IsAscending vs
  pub both : (test : ℕ → Bool) → (list_any test us || list_any test vs) ≡ (list_any test xs || list_any test ys)

pub union_start : (xs ys vs : List ℕ) → IsAscending xs → IsAscending ys → vs ≡ ys → IsUnionTo xs ys xs vs
union_start xs ys vs a b e = record { ascending = a; coming = subst IsAscending (sym e) b; both = λ test. ap (λ z. list_any test xs || list_any test z) e }

pub union_end : (xs ys us vs : List ℕ) → vs ≡ [] → IsUnionTo xs ys us vs → IsUnion xs ys us
union_end xs ys us vs e h = (h.ascending, λ test. sym (or_none (list_any test us)) ∙ ap (λ z. list_any test us || list_any test z) (sym e) ∙ h.both test)

-- some of what is to come, more, is taken in
pub union_step : (b : Bool) (xs ys us vs more new left : List ℕ) → IsUnionTo xs ys us vs → vs ≡ (if b then more else left) → (b ≡ true → left ≡ []) → IsUnion us (if b then more else []) new → IsUnionTo xs ys new left
union_step true xs ys us vs more new left h e none u = record {
  ascending = u.0;
  coming = subst IsAscending (sym (none refl)) tt;
  both = λ test. ap (λ z. list_any test new || list_any test z) (none refl) ∙ or_none (list_any test new) ∙ u.1 test ∙ ap (λ z. list_any test us || list_any test z) (sym e) ∙ h.both test;
}
union_step false xs ys us vs more new left h e none u = record {
  ascending = u.0;
  coming = subst IsAscending e h.coming;
  both = λ test. ap (λ z. z || list_any test left) (u.1 test ∙ or_none (list_any test us)) ∙ ap (λ z. list_any test us || list_any test z) (sym e) ∙ h.both test;
}
