-- The text at a text's own place.
use Rattle.std.proofs.Common.{◌≡◌, ℕ, zero, suc, ◌+◌, ◌≤◌, ◌<◌, ◌⊎◌, inl, inr, Bool, true, false, cond, List, [], ◌∷◌, length, get_or, map, refl, sym, ap, ◌∙◌, arith}
use Rattle.std.specs.declared.cmp.Ordering.{Ordering}
use Rattle.std.specs.declared.cmp.Ordering.TheVariants.{Less, Equal, Greater}
use Rattle.std.specs.Ordering.{is_lt, is_eq}
use Rattle.std.specs.List.Sorted.{IsPartitionPoint, IsPartitionedBy}
use Rattle.std.proofs.lemmas.Bool.{cases_lt}
use Rattle.std.proofs.lemmas.List.{get_or-map, length-map}
pub use Rattle.index_text.specs.Sets.{IsBefore, IsAscending}
use Rattle.index_text.specs.Sets.{rank, with_one, ascending}

module _ {A : Type 0} (cmp : A → A → Ordering) where
  pub record IsStrictOrder : Type 0 where
    pub other : (a b : A) → cmp a b ≡ Less → is_lt (cmp b a) ≡ false
    pub itself : (a : A) → is_lt (cmp a a) ≡ false

  abbrev pub Has : A → List A → Type 0
  Has x [] = ⊥
  Has x (y ∷ ys) = (x ≡ y) ⊎ Has x ys

  none_before : IsStrictOrder → (x : A) (ys : List A) → IsBefore cmp x ys → rank cmp x ys ≡ 0
  none_before order x [] h = refl
  none_before order x (y ∷ ys) h = rw (order.other x y h.0) (none_before order x ys h.1)

  before_it : (y x : A) (ys : List A) → IsBefore cmp y ys → Has x ys → cmp y x ≡ Less
  before_it y x [] h has = absurd has
  before_it y x (z ∷ zs) h (inl e) = ap (cmp y) e ∙ h.0
  before_it y x (z ∷ zs) h (inr m) = before_it y x zs h.1 m

  pub rank-within : IsStrictOrder → (x : A) (ys : List A) → IsAscending cmp ys → Has x ys → rank cmp x ys < length ys
  rank-within order x [] h has = absurd has
  rank-within order x (y ∷ ys) h (inl e) =
      let me : is_lt (cmp y x) ≡ false = ap (λ a. is_lt (cmp y a)) e ∙ order.itself y in
      let no : rank cmp x ys ≡ 0 = ap (λ a. rank cmp a ys) e ∙ none_before order y ys h.0 in
      rw (me, no) (omega arith)
  rank-within order x (y ∷ ys) h (inr m) =
      let lt : is_lt (cmp y x) ≡ true = ap is_lt (before_it y x ys h.0 m) in
      rw lt (omega (arith, rank-within order x ys h.1 m))

  pub get_or-rank : IsStrictOrder → (x d : A) (ys : List A) → IsAscending cmp ys → Has x ys → get_or ys (rank cmp x ys) d ≡ x
  get_or-rank order x d [] h has = absurd has
  get_or-rank order x d (y ∷ ys) h (inl e) =
      let me : is_lt (cmp y x) ≡ false = ap (λ a. is_lt (cmp y a)) e ∙ order.itself y in
      let no : rank cmp x ys ≡ 0 = ap (λ a. rank cmp a ys) e ∙ none_before order y ys h.0 in
      rw (me, no) (sym e)
  get_or-rank order x d (y ∷ ys) h (inr m) =
      let lt : is_lt (cmp y x) ≡ true = ap is_lt (before_it y x ys h.0 m) in
      let next : rank cmp x ys + 1 ≡ suc (rank cmp x ys) = omega arith in
      rw (lt, next) (get_or-rank order x d ys h.1 m)

  -- an ascending list is what it has
  not_both : IsStrictOrder → (a b : A) → cmp a b ≡ Less → cmp b a ≡ Less → ⊥
  not_both order a b h k =
      let off : is_lt (cmp b a) ≡ false = order.other a b h in
      let on : is_lt (cmp b a) ≡ true = ap is_lt k in
      cc

  not_itself : IsStrictOrder → (a : A) → cmp a a ≡ Less → ⊥
  not_itself order a h =
      let off : is_lt (cmp a a) ≡ false = order.itself a in
      let on : is_lt (cmp a a) ≡ true = ap is_lt h in
      cc

  heads : IsStrictOrder → (x y : A) (xs ys : List A) → IsBefore cmp x xs → IsBefore cmp y ys → Has x (y ∷ ys) → Has y (x ∷ xs) → x ≡ y
  heads order x y xs ys h k (inl e) q = e
  heads order x y xs ys h k (inr m) (inl e) = sym e
  heads order x y xs ys h k (inr m) (inr n) = absurd (not_both order x y (before_it x y xs h n) (before_it y x ys k m))

  -- what is after the head of one is after the head of the other
  behind : IsStrictOrder → (x y z : A) (xs ys : List A) → x ≡ y → IsBefore cmp x xs → Has z xs → Has z (y ∷ ys) → Has z ys
  behind order x y z xs ys same h m (inr n) = n
  behind order x y z xs ys same h m (inl e) = absurd (not_itself order x (ap (cmp x) (same ∙ sym e) ∙ before_it x z xs h m))

  pub same_ascending : IsStrictOrder → (xs ys : List A) → IsAscending cmp xs → IsAscending cmp ys → ((z : A) → Has z xs → Has z ys) → ((z : A) → Has z ys → Has z xs) → xs ≡ ys
  same_ascending order [] [] h k to from = refl
  same_ascending order [] (y ∷ ys) h k to from = absurd (from y (inl refl))
  same_ascending order (x ∷ xs) [] h k to from = absurd (to x (inl refl))
  same_ascending order (x ∷ xs) (y ∷ ys) h k to from =
      let e : x ≡ y = heads order x y xs ys h.0 k.0 (to x (inl refl)) (from y (inl refl)) in
      let rest : xs ≡ ys = same_ascending order xs ys h.1 k.1 (λ z m. behind order x y z xs ys e h.0 m (to z (inr m))) (λ z m. behind order y x z ys xs (sym e) k.0 m (from z (inr m))) in
      rw (e, rest) refl

  -- ---- ascending is ascending

  pub record IsOrder : Type 0 where
    pub then : (a b c : A) → cmp a b ≡ Less → cmp b c ≡ Less → cmp a c ≡ Less
    pub swap : (a b : A) → cmp a b ≡ Greater → cmp b a ≡ Less

  before_by : (y x z : A) (zs : List A) (o : Ordering) → IsBefore cmp y (z ∷ zs) → cmp y x ≡ Less → IsBefore cmp y (with_one cmp x zs) → IsBefore cmp y (cond (is_lt o) (x ∷ z ∷ zs) (cond (is_eq o) (z ∷ zs) (z ∷ with_one cmp x zs)))
  before_by y x z zs Less h lt rest = (lt, h)
  before_by y x z zs Equal h lt rest = h
  before_by y x z zs Greater h lt rest = (h.0, rest)

  before_with : (y x : A) (zs : List A) → IsBefore cmp y zs → cmp y x ≡ Less → IsBefore cmp y (with_one cmp x zs)
  before_with y x [] h lt = (lt, tt)
  before_with y x (z ∷ zs) h lt = before_by y x z zs (cmp x z) h lt (before_with y x zs h.1 lt)

  before_all : IsOrder → (x y : A) (ys : List A) → cmp x y ≡ Less → IsBefore cmp y ys → IsBefore cmp x ys
  before_all order x y [] lt h = tt
  before_all order x y (z ∷ zs) lt h = (order.then x y z lt h.0, before_all order x y zs lt h.1)

  with_by : IsOrder → (x z : A) (zs : List A) (o : Ordering) → cmp x z ≡ o → IsAscending cmp (z ∷ zs) → IsAscending cmp (with_one cmp x zs) → IsAscending cmp (cond (is_lt o) (x ∷ z ∷ zs) (cond (is_eq o) (z ∷ zs) (z ∷ with_one cmp x zs)))
  with_by order x z zs Less e h rest = ((e, before_all order x z zs e h.0), h)
  with_by order x z zs Equal e h rest = h
  with_by order x z zs Greater e h rest = (before_with z x zs h.0 (order.swap x z e), rest)

  pub with_one-ascending : IsOrder → (x : A) (zs : List A) → IsAscending cmp zs → IsAscending cmp (with_one cmp x zs)
  with_one-ascending order x [] h = (tt, tt)
  with_one-ascending order x (z ∷ zs) h = with_by order x z zs (cmp x z) refl h (with_one-ascending order x zs h.1)

  pub ascending-is : IsOrder → (xs : List A) → IsAscending cmp (ascending cmp xs)
  ascending-is order [] = tt
  ascending-is order (x ∷ xs) = with_one-ascending order x (ascending cmp xs) (ascending-is order xs)

  -- ---- ascending has what the list has

  has_by : (x y z : A) (ys : List A) (o : Ordering) → (o ≡ Equal → x ≡ y) → (z ≡ x) ⊎ Has z (y ∷ ys) → ((z ≡ x) ⊎ Has z ys → Has z (with_one cmp x ys)) → Has z (cond (is_lt o) (x ∷ y ∷ ys) (cond (is_eq o) (y ∷ ys) (y ∷ with_one cmp x ys)))
  has_by x y z ys Less exact h rest = h
  has_by x y z ys Equal exact (inl e) rest = inl (e ∙ exact refl)
  has_by x y z ys Equal exact (inr m) rest = m
  has_by x y z ys Greater exact (inl e) rest = inr (rest (inl e))
  has_by x y z ys Greater exact (inr (inl e)) rest = inl e
  has_by x y z ys Greater exact (inr (inr m)) rest = inr (rest (inr m))

  pub with_one-has : ((a b : A) → cmp a b ≡ Equal → a ≡ b) → (x z : A) (ys : List A) → (z ≡ x) ⊎ Has z ys → Has z (with_one cmp x ys)
  with_one-has exact x z [] h = h
  with_one-has exact x z (y ∷ ys) h = has_by x y z ys (cmp x y) (exact x y) h (with_one-has exact x z ys)

  of_by : (x y z : A) (ys : List A) (o : Ordering) → Has z (cond (is_lt o) (x ∷ y ∷ ys) (cond (is_eq o) (y ∷ ys) (y ∷ with_one cmp x ys))) → (Has z (with_one cmp x ys) → (z ≡ x) ⊎ Has z ys) → (z ≡ x) ⊎ Has z (y ∷ ys)
  of_by x y z ys Less h rest = h
  of_by x y z ys Equal h rest = inr h
  of_by x y z ys Greater (inl e) rest = inr (inl e)
  of_by x y z ys Greater (inr m) rest = further (rest m)
    where
      further : (z ≡ x) ⊎ Has z ys → (z ≡ x) ⊎ Has z (y ∷ ys)
      further (inl e) = inl e
      further (inr n) = inr (inr n)

  pub with_one-of : (x z : A) (ys : List A) → Has z (with_one cmp x ys) → (z ≡ x) ⊎ Has z ys
  with_one-of x z [] h = h
  with_one-of x z (y ∷ ys) h = of_by x y z ys (cmp x y) h (with_one-of x z ys)

  pub ascending-has : ((a b : A) → cmp a b ≡ Equal → a ≡ b) → (z : A) (xs : List A) → Has z xs → Has z (ascending cmp xs)
  ascending-has exact z [] h = h
  ascending-has exact z (x ∷ xs) (inl e) = with_one-has exact x z (ascending cmp xs) (inl e)
  ascending-has exact z (x ∷ xs) (inr m) = with_one-has exact x z (ascending cmp xs) (inr (ascending-has exact z xs m))

  pub ascending-of : (z : A) (xs : List A) → Has z (ascending cmp xs) → Has z xs
  ascending-of z [] h = h
  ascending-of z (x ∷ xs) h = by (with_one-of x z (ascending cmp xs) h) (ascending-of z xs)
    where
      by : (z ≡ x) ⊎ Has z (ascending cmp xs) → (Has z (ascending cmp xs) → Has z xs) → Has z (x ∷ xs)
      by (inl e) f = inl e
      by (inr m) f = inr (f m)

  -- ---- a rank as a search finds it

  before_at : (y : A) (ys : List A) → IsBefore cmp y ys → (j : ℕ) (d : A) → j < length ys → cmp y (get_or ys j d) ≡ Less
  before_at y [] h j d lt = absurd (omega (arith, lt))
  before_at y (z ∷ zs) h zero d lt = h.0
  before_at y (z ∷ zs) h (suc j) d lt = before_at y zs h.1 j d (omega (arith, lt))

  -- what is at a place has that rank
  pub rank-at : IsStrictOrder → (x d : A) (ys : List A) (i : ℕ) → IsAscending cmp ys → i < length ys → get_or ys i d ≡ x → rank cmp x ys ≡ i
  rank-at order x d [] i h lt e = absurd (omega (arith, lt))
  rank-at order x d (y ∷ ys) zero h lt e =
      let me : is_lt (cmp y x) ≡ false = ap (λ a. is_lt (cmp y a)) (sym e) ∙ order.itself y in
      let no : rank cmp x ys ≡ 0 = ap (λ a. rank cmp a ys) (sym e) ∙ none_before order y ys h.0 in
      rw (me, no) refl
  rank-at order x d (y ∷ ys) (suc i) h lt e =
      let less : is_lt (cmp y x) ≡ true = ap is_lt (ap (cmp y) (sym e) ∙ before_at y ys h.0 i d (omega (arith, lt))) in
      let more : rank cmp x ys ≡ i = rank-at order x d ys i h.1 (omega (arith, lt)) e in
      rw less (omega (arith, more))

  at_less : (ys : List A) → IsAscending cmp ys → (i j : ℕ) (d : A) → i < j → j < length ys → cmp (get_or ys i d) (get_or ys j d) ≡ Less
  at_less [] h i j d lt within = absurd (omega (arith, within))
  at_less (y ∷ ys) h zero zero d lt within = absurd (omega (arith, lt))
  at_less (y ∷ ys) h zero (suc j) d lt within = before_at y ys h.0 j d (omega (arith, within))
  at_less (y ∷ ys) h (suc i) zero d lt within = absurd (omega (arith, lt))
  at_less (y ∷ ys) h (suc i) (suc j) d lt within = at_less ys h.1 i j d (omega (arith, lt)) (omega (arith, within))

  is_less : (o : Ordering) → is_lt o ≡ true → o ≡ Less
  is_less Less e = refl
  is_less Equal e = absurd cc
  is_less Greater e = absurd cc

  -- in an ascending list nothing that comes before x is after what does not
  pub parted : {X : Type 0} (key : X → A) → IsOrder → (x : A) (xs : List X) → IsAscending cmp (map key xs) → IsPartitionedBy (λ y. is_lt (cmp (key y) x)) xs
  parted key order x xs h i j d le within less = by (cases_lt i j)
    where
      at_j : get_or (map key xs) j (key d) ≡ key (get_or xs j d)
      at_j = get_or-map key xs j d (key d) within

      at_i : get_or (map key xs) i (key d) ≡ key (get_or xs i d)
      at_i = get_or-map key xs i d (key d) (omega (arith, le, within))

      long : length (map key xs) ≡ length xs
      long = length-map xs key

      by : (i < j) ⊎ (j ≤ i) → is_lt (cmp (key (get_or xs i d)) x) ≡ true
      by (inl lt) =
          let first = at_less (map key xs) h i j (key d) lt (omega (arith, within, long)) in
          let first_of : cmp (key (get_or xs i d)) (key (get_or xs j d)) ≡ Less = ap (λ a. cmp a (key (get_or xs j d))) (sym at_i) ∙ ap (cmp (get_or (map key xs) i (key d))) (sym at_j) ∙ first in
          ap is_lt (order.then _ _ _ first_of (is_less (cmp (key (get_or xs j d)) x) less))
      by (inr ge) = let same : i ≡ j = omega (arith, le, ge) in ap (λ k. is_lt (cmp (key (get_or xs k d)) x)) same ∙ less

  pub rank-point : {X : Type 0} (key : X → A) (x : A) (xs : List X) (i : ℕ) → i ≤ length xs → IsPartitionPoint (λ y. is_lt (cmp (key y) x) ≡ true) (λ y. is_lt (cmp (key y) x) ≡ false) xs i → rank cmp x (map key xs) ≡ i
  rank-point key x [] i le h = omega (arith, le)
  rank-point key x (y ∷ ys) zero le h =
      rw (h.1 0 y (omega arith) (omega arith)) (rank-point key x ys zero (omega arith) ((λ k d low high. absurd (omega (arith, high))), (λ k d low high. h.1 (suc k) d (omega arith) (omega (arith, high)))))
  rank-point key x (y ∷ ys) (suc i) le h =
      let more : rank cmp x (map key ys) ≡ i = rank-point key x ys i (omega (arith, le)) ((λ k d low high. h.0 (suc k) d (omega arith) (omega (arith, high))), (λ k d low high. h.1 (suc k) d (omega (arith, low)) (omega (arith, high)))) in
      rw (h.0 0 y (omega arith) (omega arith)) (omega (arith, more))

  pub rank-le : (x : A) (ys : List A) → rank cmp x ys ≤ length ys
  rank-le x [] = omega arith
  rank-le x (y ∷ ys) = by (is_lt (cmp y x)) (rank-le x ys)
    where
      by : (b : Bool) → rank cmp x ys ≤ length ys → cond b (rank cmp x ys + 1) (rank cmp x ys) ≤ length (y ∷ ys)
      by true le = omega (arith, le)
      by false le = omega (arith, le)
