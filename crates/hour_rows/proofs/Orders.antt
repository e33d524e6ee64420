-- A sorted list of things with distinct keys is the ascending list of them.
use Rattle.std.proofs.Common.{◌≡◌, ℕ, zero, suc, ◌+◌, ◌≤◌, ◌⊎◌, inl, inr, Bool, true, false, cond, List, [], ◌∷◌, get_or, map, refl, sym, ap, subst, ◌∙◌, arith}
use Rattle.std.specs.Prelude.{Option, None, Some, Contains, if◌then◌else◌}
use Rattle.std.specs.List.{filter_map, cons_option, sum_by}
use Rattle.std.specs.List.Sorted.{IsPermutation, IsSorted}
use Rattle.std.specs.Cmp.{IsTotalOrder}
use Rattle.std.specs.Ordering.{is_lt, is_eq, ordering_reverse}
use Rattle.std.specs.declared.cmp.Ordering.{Ordering}
use Rattle.std.specs.declared.cmp.Ordering.TheVariants.{Less, Equal, Greater}
use Rattle.std.proofs.lemmas.Cmp.{tied_itself}
use Rattle.std.proofs.lemmas.List.Recursion.{is_sum_by}
use Rattle.std.proofs.lemmas.List.Sorted.{Contains-permutation, IsPermutation-sym, sum_by-IsPermutation}
use Rattle.index_text.specs.Sets.{with_one, ascending}
use Rattle.index_text.proofs.Ranks.{Has, IsAscending, IsBefore, IsOrder, IsStrictOrder, ascending-is, ascending-of, same_ascending}

reverse_less : (o p : Ordering) → o ≡ ordering_reverse p → p ≡ Less → is_lt o ≡ false
reverse_less o p e f = ap is_lt (e ∙ ap ordering_reverse f)

reverse_greater : (o p : Ordering) → p ≡ ordering_reverse o → o ≡ Greater → p ≡ Less
reverse_greater o p e f = e ∙ ap ordering_reverse f

-- it is one of these
module _ {A : Type 0} (cmp : A → A → Ordering) where
  contains_has : (x : A) (xs : List A) → Contains xs x → Has cmp x xs
  contains_has x [] (k, lt, e) = absurd (omega arith)
  contains_has x (y ∷ ys) (zero, lt, e) = inl (sym e)
  contains_has x (y ∷ ys) (suc k, lt, e) = inr (contains_has x ys (k, omega arith, e))

  has_contains : (x : A) (xs : List A) → Has cmp x xs → Contains xs x
  has_contains x [] h = absurd h
  has_contains x (y ∷ ys) (inl e) = (0, omega arith, sym e)
  has_contains x (y ∷ ys) (inr m) = let there = has_contains x ys m in (suc there.0, omega (arith, there.1), there.2)

module _ {X K : Type 0} (key : X → K) (R : K → K → Ordering) (total : IsTotalOrder R) where
  abbrev pub by_key : X → X → Ordering
  by_key x y = R (key x) (key y)

  pub by_key_strict : IsStrictOrder by_key
  by_key_strict = record {
    other = λ a b h. reverse_less (R (key b) (key a)) (R (key a) (key b)) (total.antisymm (key b) (key a)) h;
    itself = λ a. ap is_lt (tied_itself total (key a));
  }

  pub by_key_order : IsOrder by_key
  by_key_order = record {
    then = λ a b c p q. total.trans (key a) (key b) (key c) p q;
    swap = λ a b h. reverse_greater (R (key a) (key b)) (R (key b) (key a)) (total.antisymm (key b) (key a)) h;
  }

  -- none of these has the key of x
  abbrev pub Differs : X → List X → Type 0
  Differs x ys = (y : X) → Has by_key y ys → by_key x y ≡ Equal → ⊥

  abbrev pub AreApart : List X → Type 0
  AreApart [] = Unit {0}
  AreApart (x ∷ xs) = Differs x xs × AreApart xs

  -- ---- ascending has what the list has

  with_by : (x y z : X) (ys : List X) (o : Ordering) → by_key x y ≡ o → Differs x (y ∷ ys) → (z ≡ x) ⊎ Has by_key z (y ∷ ys) → ((z ≡ x) ⊎ Has by_key z ys → Has by_key z (with_one by_key x ys))
      → Has by_key z (cond (is_lt o) (x ∷ y ∷ ys) (cond (is_eq o) (y ∷ ys) (y ∷ with_one by_key x ys)))
  with_by x y z ys Less e off h rest = h
  with_by x y z ys Equal e off h rest = absurd (off y (inl refl) e)
  with_by x y z ys Greater e off (inl m) rest = inr (rest (inl m))
  with_by x y z ys Greater e off (inr (inl m)) rest = inl m
  with_by x y z ys Greater e off (inr (inr m)) rest = inr (rest (inr m))

  with_one_has : (x z : X) (ys : List X) → Differs x ys → (z ≡ x) ⊎ Has by_key z ys → Has by_key z (with_one by_key x ys)
  with_one_has x z [] off h = h
  with_one_has x z (y ∷ ys) off h = with_by x y z ys (by_key x y) refl off h (with_one_has x z ys (λ w m. off w (inr m)))

  pub ascending_has : (z : X) (xs : List X) → AreApart xs → Has by_key z xs → Has by_key z (ascending by_key xs)
  ascending_has z [] apart h = h
  ascending_has z (x ∷ xs) apart (inl e) = with_one_has x z (ascending by_key xs) (λ w m. apart.0 w (ascending-of by_key w xs m)) (inl e)
  ascending_has z (x ∷ xs) apart (inr m) = with_one_has x z (ascending by_key xs) (λ w n. apart.0 w (ascending-of by_key w xs n)) (inr (ascending_has z xs apart.1 m))

  -- ---- a sorted list whose keys are distinct ascends

  abbrev one_if : K → X → ℕ
  one_if k x = cond (is_eq (R k (key x))) 1 0

  -- how many have the key
  abbrev times : K → List X → ℕ
  times k [] = 0
  times k (x ∷ xs) = one_if k x + times k xs

  unequal : (o : Ordering) → (o ≡ Equal → ⊥) → is_eq o ≡ false
  unequal Less h = refl
  unequal Equal h = absurd (h refl)
  unequal Greater h = refl

  none_times : (k : K) (xs : List X) → ((y : X) → Has by_key y xs → R k (key y) ≡ Equal → ⊥) → times k xs ≡ 0
  none_times k [] h = refl
  none_times k (x ∷ xs) h =
      let no : one_if k x ≡ 0 = ap (λ (b : Bool). cond b 1 0) (unequal (R k (key x)) (h x (inl refl))) in
      let rest : times k xs ≡ 0 = none_times k xs (λ y m. h y (inr m)) in
      omega arith

  few_by : (k : K) (x : X) (xs : List X) (o : Ordering) → R k (key x) ≡ o → Differs x xs → times k xs ≤ 1 → times k (x ∷ xs) ≤ 1
  few_by k x xs Less e off rest =
      let no : one_if k x ≡ 0 = ap (λ (o : Ordering). cond (is_eq o) 1 0) e in
      omega arith
  few_by k x xs Equal e off rest =
      let one : one_if k x ≡ 1 = ap (λ (o : Ordering). cond (is_eq o) 1 0) e in
      let none : times k xs ≡ 0 = none_times k xs (λ y m f. off y m (sym (total.congr k (key x) (key y) e) ∙ f)) in
      omega arith
  few_by k x xs Greater e off rest =
      let no : one_if k x ≡ 0 = ap (λ (o : Ordering). cond (is_eq o) 1 0) e in
      omega arith

  few_times : (k : K) (xs : List X) → AreApart xs → times k xs ≤ 1
  few_times k [] h = omega arith
  few_times k (x ∷ xs) h = few_by k x xs (R k (key x)) refl h.0 (few_times k xs h.1)

  times_sum : (k : K) (xs : List X) → times k xs ≡ sum_by (one_if k) xs
  times_sum k xs = is_sum_by (times k) (one_if k) refl (λ _ _. refl) xs

  still_few : (k : K) (xs ys : List X) → IsPermutation xs ys → times k xs ≤ 1 → times k ys ≤ 1
  still_few k xs ys moved few = omega (arith, times_sum k xs, times_sum k ys, sum_by-IsPermutation (one_if k) xs ys moved)

  before_all : (x y : X) (ys : List X) → by_key x y ≡ Less → IsBefore by_key y ys → IsBefore by_key x ys
  before_all x y [] lt h = tt
  before_all x y (z ∷ zs) lt h = (total.trans (key x) (key y) (key z) lt h.0, before_all x y zs lt h.1)

  less_by : (x y : X) (ys : List X) (o : Ordering) → by_key x y ≡ o → is_lt (by_key y x) ≡ false → times (key x) (x ∷ y ∷ ys) ≤ 1 → o ≡ Less
  less_by x y ys Less e h few = refl
  less_by x y ys Equal e h few =
      let one : one_if (key x) x ≡ 1 = ap (λ (o : Ordering). cond (is_eq o) 1 0) (tied_itself total (key x)) in
      let two : one_if (key x) y ≡ 1 = ap (λ (o : Ordering). cond (is_eq o) 1 0) e in
      absurd (omega arith)
  less_by x y ys Greater e h few =
      let less : by_key y x ≡ Less = reverse_greater (by_key x y) (by_key y x) (total.antisymm (key y) (key x)) e in
      let is : is_lt (by_key y x) ≡ true = ap is_lt less in
      cc

  sorted_rest : (x : X) (xs : List X) → IsSorted by_key (x ∷ xs) → IsSorted by_key xs
  sorted_rest x xs h = λ k d low lt.
      let at : suc k + 1 ≡ suc (k + 1) = omega arith in
      subst (λ (i : ℕ). is_lt (by_key (get_or (x ∷ xs) i d) (get_or xs k d)) ≡ false) at (h (suc k) d (omega arith) (omega arith))

  sorted_ascends : (xs : List X) → IsSorted by_key xs → ((k : K) → times k xs ≤ 1) → IsAscending by_key xs
  sorted_ascends [] h few = tt
  sorted_ascends (x ∷ []) h few = (tt, tt)
  sorted_ascends (x ∷ y ∷ ys) h few =
      let less : by_key x y ≡ Less = (let turn = h 0 x (omega arith) (omega arith) in less_by x y ys (by_key x y) refl turn (few (key x))) in
      let rest : IsAscending by_key (y ∷ ys) = sorted_ascends (y ∷ ys) (sorted_rest x (y ∷ ys) h) (λ k. omega (arith, few k)) in
      ((less, before_all x y ys less rest.0), rest)

-- ---- what is kept of an ascending list

module _ {X Y K : Type 0} (key : X → K) (label : Y → K) (R : K → K → Ordering) (total : IsTotalOrder R) (f : X → Option Y) (same : (x : X) (y : Y) → f x ≡ Some y → label y ≡ key x) where
  abbrev xs_by : X → X → Ordering
  xs_by = by_key key R total

  abbrev ys_by : Y → Y → Ordering
  ys_by = by_key label R total

  -- what is kept comes of something
  has_kept : (z : Y) (xs : List X) → Has ys_by z (filter_map f xs) → (x : X) × Has xs_by x xs × (f x ≡ Some z)
  has_kept z [] h = absurd h
  has_kept z (x ∷ xs) h = by (f x) refl h (λ m. has_kept z xs m) where
    further : (w : X) × Has xs_by w xs × (f w ≡ Some z) → (w : X) × Has xs_by w (x ∷ xs) × (f w ≡ Some z)
    further (w, m, e) = (w, inr m, e)

    by : (o : Option Y) → f x ≡ o → Has ys_by z (cons_option o (filter_map f xs)) → (Has ys_by z (filter_map f xs) → (w : X) × Has xs_by w xs × (f w ≡ Some z)) → (w : X) × Has xs_by w (x ∷ xs) × (f w ≡ Some z)
    by None e m next = further (next m)
    by (Some y) e (inl i) next = (x, inl refl, e ∙ ap Some (sym i))
    by (Some y) e (inr m) next = further (next m)

  kept_has : (x : X) (z : Y) (xs : List X) → Has xs_by x xs → f x ≡ Some z → Has ys_by z (filter_map f xs)
  kept_has x z [] h e = absurd h
  kept_has x z (w ∷ ws) (inl i) e = subst (λ o. Has ys_by z (cons_option o (filter_map f ws))) (sym (ap f (sym i) ∙ e)) (inl refl)
  kept_has x z (w ∷ ws) (inr m) e = by (f w) (kept_has x z ws m e) where
    by : (o : Option Y) → Has ys_by z (filter_map f ws) → Has ys_by z (cons_option o (filter_map f ws))
    by None h = h
    by (Some y) h = inr h

  kept_apart : (xs : List X) → AreApart key R total xs → AreApart label R total (filter_map f xs)
  kept_apart [] h = tt
  kept_apart (x ∷ xs) h = by (f x) refl (kept_apart xs h.1) where
    off : (y z : Y) → f x ≡ Some y → (w : X) × Has xs_by w xs × (f w ≡ Some z) → R (label y) (label z) ≡ Equal → ⊥
    off y z e (w, m, i) eq = h.0 w m (sym (ap (λ k. R k (label z)) (same x y e) ∙ ap (R (key x)) (same w z i)) ∙ eq)

    by : (o : Option Y) → f x ≡ o → AreApart label R total (filter_map f xs) → AreApart label R total (cons_option o (filter_map f xs))
    by None e rest = rest
    by (Some y) e rest = (λ z m eq. off y z e (has_kept z xs m) eq, rest)

  kept_before : (x : X) (y : Y) (xs : List X) → f x ≡ Some y → IsBefore xs_by x xs → IsBefore ys_by y (filter_map f xs)
  kept_before x y [] e h = tt
  kept_before x y (w ∷ ws) e h = by (f w) refl (kept_before x y ws e h.1) where
    by : (o : Option Y) → f w ≡ o → IsBefore ys_by y (filter_map f ws) → IsBefore ys_by y (cons_option o (filter_map f ws))
    by None i rest = rest
    by (Some z) i rest = (ap (λ k. R k (label z)) (same x y e) ∙ ap (R (key x)) (same w z i) ∙ h.0, rest)

  pub kept_ascends : (xs : List X) → IsAscending xs_by xs → IsAscending ys_by (filter_map f xs)
  kept_ascends [] h = tt
  kept_ascends (x ∷ xs) h = by (f x) refl (kept_ascends xs h.1) where
    by : (o : Option Y) → f x ≡ o → IsAscending ys_by (filter_map f xs) → IsAscending ys_by (cons_option o (filter_map f xs))
    by None e rest = rest
    by (Some y) e rest = (kept_before x y xs e h.0, rest)

  -- What is kept of some things with distinct keys and then sorted is what is kept of the ascending list of them.
  pub sorted_is : (xs : List X) (ys : List Y) → AreApart key R total xs → IsPermutation (filter_map f xs) ys → IsSorted ys_by ys → ys ≡ filter_map f (ascending xs_by xs)
  sorted_is xs ys apart moved sorted =
      let few : (k : K) → times label R total k ys ≤ 1 = (λ k. still_few label R total k (filter_map f xs) ys moved (few_times label R total k (filter_map f xs) (kept_apart xs apart))) in
      same_ascending ys_by (by_key_strict label R total) ys (filter_map f (ascending xs_by xs)) (sorted_ascends label R total ys sorted few)
      (kept_ascends (ascending xs_by xs) (ascending-is xs_by (by_key_order key R total) xs)) to from
    where
      into : (z : Y) → (x : X) × Has xs_by x xs × (f x ≡ Some z) → Has ys_by z (filter_map f (ascending xs_by xs))
      into z (x, m, e) = kept_has x z (ascending xs_by xs) (ascending_has key R total x xs apart m) e

      to : (z : Y) → Has ys_by z ys → Has ys_by z (filter_map f (ascending xs_by xs))
      to z h = into z (has_kept z xs (contains_has ys_by z (filter_map f xs) (Contains-permutation ys (filter_map f xs) z (IsPermutation-sym (filter_map f xs) ys moved) (has_contains ys_by z ys h))))

      back : (z : Y) → (x : X) × Has xs_by x (ascending xs_by xs) × (f x ≡ Some z) → Has ys_by z ys
      back z (x, m, e) = contains_has ys_by z ys (Contains-permutation (filter_map f xs) ys z moved (has_contains ys_by z (filter_map f xs) (kept_has x z xs (ascending-of xs_by x xs m) e)))

      from : (z : Y) → Has ys_by z (filter_map f (ascending xs_by xs)) → Has ys_by z ys
      from z h = back z (has_kept z (ascending xs_by xs) h)

-- ---- things that stand for others

module _ {X Y : Type 0} (g : X → Y) (R : Y → Y → Ordering) where
  abbrev by_image : X → X → Ordering
  by_image a b = R (g a) (g b)

  with_one_map : (x : X) (ys : List X) → with_one R (g x) (map g ys) ≡ map g (with_one by_image x ys)
  with_one_map x [] = refl
  with_one_map x (y ∷ ys) = by (by_image x y) (with_one_map x ys) where
    by : (o : Ordering) → with_one R (g x) (map g ys) ≡ map g (with_one by_image x ys)
        → (if is_lt o then g x ∷ g y ∷ map g ys else (if is_eq o then g y ∷ map g ys else g y ∷ with_one R (g x) (map g ys)))
        ≡ map g (if is_lt o then x ∷ y ∷ ys else (if is_eq o then y ∷ ys else y ∷ with_one by_image x ys))
    by Less same = refl
    by Equal same = refl
    by Greater same = ap (λ (zs : List Y). g y ∷ zs) same

  -- the ascending list of what they stand for
  pub ascending_map : (xs : List X) → ascending R (map g xs) ≡ map g (ascending by_image xs)
  ascending_map [] = refl
  ascending_map (x ∷ xs) = ap (with_one R (g x)) (ascending_map xs) ∙ with_one_map x (ascending by_image xs)

module _ {X Y K : Type 0} (g : X → Y) (key : Y → K) (R : K → K → Ordering) (total : IsTotalOrder R) where
  abbrev image_key : X → K
  image_key x = key (g x)

  has_map : (z : X) (xs : List X) → Has (by_key image_key R total) z xs → Has (by_key key R total) (g z) (map g xs)
  has_map z [] h = absurd h
  has_map z (x ∷ xs) (inl e) = inl (ap g e)
  has_map z (x ∷ xs) (inr m) = inr (has_map z xs m)

  pub apart_map : (xs : List X) → AreApart key R total (map g xs) → AreApart image_key R total xs
  apart_map [] h = tt
  apart_map (x ∷ xs) h = (λ y m e. h.0 (g y) (has_map y xs m) e, apart_map xs h.1)
