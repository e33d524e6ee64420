-- A list in which no key is less than one before it is its groups, one after another.
use Rattle.std.proofs.Common.{◌≡◌, ℕ, zero, suc, ◌⊎◌, inl, inr, Bool, true, false, List, [], ◌∷◌, ◌++◌, map, take, drop, refl, sym, ap, ◌∙◌}
use Rattle.std.specs.Cmp.{IsTotalOrder}
use Rattle.std.specs.FinMap.{IsAntisymmetric}
use Rattle.std.specs.Ordering.{is_eq, is_lt, ordering_reverse}
use Rattle.std.specs.declared.cmp.Ordering.{Ordering}
use Rattle.std.specs.declared.cmp.Ordering.TheVariants.{Less, Equal, Greater}
use Rattle.std.proofs.lemmas.Cmp.{tied_itself, alike_right}
use Rattle.index_text.specs.Groups.{run_length, keys, members}
use Rattle.index_text.specs.Sets.{IsBefore}
use Rattle.index_text.proofs.Ranks.{Has, same_ascending, ascending-is, ascending-has, ascending-of}
use Rattle.index_text.proofs.Orders.{strict, as_order}

module _ {X K : Type 0} (key : X → K) (cmp : K → K → Ordering) where
  -- no key is less
  abbrev pub AreAtLeast : K → List X → Type 0
  AreAtLeast k [] = Unit {0}
  AreAtLeast k (y ∷ ys) = (is_lt (cmp (key y) k) ≡ false) × AreAtLeast k ys

  -- no key is less than one before it
  abbrev pub KeysRise : List X → Type 0
  KeysRise [] = Unit {0}
  KeysRise (x ∷ xs) = AreAtLeast (key x) xs × KeysRise xs

  pub KeysRise-drop : (n : ℕ) (xs : List X) → KeysRise xs → KeysRise (drop n xs)
  KeysRise-drop zero xs h = h
  KeysRise-drop (suc n) [] h = tt
  KeysRise-drop (suc n) (x ∷ xs) h = KeysRise-drop n xs h.1

  -- what is made of each group
  abbrev pub groups : {B : Type 0} → (List X → B) → List X → List B
  groups f xs = map (λ k. f (members key cmp xs k)) (keys key cmp xs)

  abbrev same : K → X → Bool
  same k x = is_eq (cmp (key x) k)

  abbrev AllEqual : K → List X → Type 0
  AllEqual k [] = Unit {0}
  AllEqual k (y ∷ ys) = (cmp (key y) k ≡ Equal) × AllEqual k ys

  abbrev AllPast : K → List X → Type 0
  AllPast k [] = Unit {0}
  AllPast k (y ∷ ys) = (cmp k (key y) ≡ Less) × AllPast k ys

  module _ (order : IsTotalOrder cmp) (exact : IsAntisymmetric cmp) where
    past_by : (k l m : K) (o : Ordering) → cmp l m ≡ o → is_lt (cmp m l) ≡ false → cmp k l ≡ Less → cmp k m ≡ Less
    past_by k l m Less e at less = order.trans k l m less e
    past_by k l m Equal e at less = sym (alike_right order l m k e) ∙ less
    past_by k l m Greater e at less =
        let turned : cmp m l ≡ Less = order.antisymm m l ∙ ap ordering_reverse e in
        absurd (let on : is_lt (cmp m l) ≡ true = ap is_lt turned in cc)

    all_past : (k l : K) (ys : List X) → cmp k l ≡ Less → AreAtLeast l ys → AllPast k ys
    all_past k l [] less h = tt
    all_past k l (y ∷ ys) less h = (past_by k l (key y) (cmp l (key y)) refl h.0 less, all_past k l ys less h.1)

    abbrev AreSplit : K → List X → Type 0
    AreSplit k ys = AllEqual k (take (run_length (same k) ys) ys) × AllPast k (drop (run_length (same k) ys) ys)

    split_by : (k : K) (y : X) (ys : List X) (o : Ordering) → cmp (key y) k ≡ o → is_lt (cmp (key y) k) ≡ false → AreAtLeast (key y) ys → AreSplit k ys → AreSplit k (y ∷ ys)
    split_by k y ys Less e at h more = absurd (let on : is_lt (cmp (key y) k) ≡ true = ap is_lt e in cc)
    split_by k y ys Equal e at h more = rw e ((e, more.0), more.1)
    split_by k y ys Greater e at h more =
        let less : cmp k (key y) ≡ Less = order.antisymm k (key y) ∙ ap ordering_reverse e in
        rw e (tt, (less, all_past k (key y) ys less h))

    split : (k : K) (ys : List X) → AreAtLeast k ys → KeysRise ys → AreSplit k ys
    split k [] h r = (tt, tt)
    split k (y ∷ ys) h r = split_by k y ys (cmp (key y) k) refl h.0 r.0 (split k ys h.1 r.1)

    -- ---- the first group

    Has-past : (k z : K) (ys : List X) → AllPast k ys → Has cmp z (map key ys) → cmp k z ≡ Less
    Has-past k z [] h has = absurd has
    Has-past k z (y ∷ ys) h (inl e) = ap (cmp k) e ∙ h.0
    Has-past k z (y ∷ ys) h (inr m) = Has-past k z ys h.1 m

    Has-equal : (k z : K) (ys : List X) → AllEqual k ys → Has cmp z (map key ys) → z ≡ k
    Has-equal k z [] h has = absurd has
    Has-equal k z (y ∷ ys) h (inl e) = e ∙ exact (key y) k h.0
    Has-equal k z (y ∷ ys) h (inr m) = Has-equal k z ys h.1 m

    before_all : (k : K) (zs : List K) → ((z : K) → Has cmp z zs → cmp k z ≡ Less) → IsBefore cmp k zs
    before_all k [] h = tt
    before_all k (z ∷ zs) h = (h z (inl refl), before_all k zs (λ y m. h y (inr m)))

    Has-parted : (n : ℕ) (z : K) (ys : List X) → Has cmp z (map key ys) → Has cmp z (map key (take n ys)) ⊎ Has cmp z (map key (drop n ys))
    Has-parted zero z ys h = inr h
    Has-parted (suc n) z [] h = absurd h
    Has-parted (suc n) z (y ∷ ys) (inl e) = inl (inl e)
    Has-parted (suc n) z (y ∷ ys) (inr m) = further (Has-parted n z ys m)
      where
        further : Has cmp z (map key (take n ys)) ⊎ Has cmp z (map key (drop n ys)) → Has cmp z (map key (take (suc n) (y ∷ ys))) ⊎ Has cmp z (map key (drop (suc n) (y ∷ ys)))
        further (inl a) = inl (inr a)
        further (inr b) = inr b

    Has-dropped : (n : ℕ) (z : K) (ys : List X) → Has cmp z (map key (drop n ys)) → Has cmp z (map key ys)
    Has-dropped zero z ys h = h
    Has-dropped (suc n) z [] h = h
    Has-dropped (suc n) z (y ∷ ys) h = inr (Has-dropped n z ys h)

    -- how many elements the first group has
    abbrev pub first_length : X → List X → ℕ
    first_length x xs = suc (run_length (same (key x)) xs)

    pub keys_step : (x : X) (xs : List X) → KeysRise (x ∷ xs) → keys key cmp (x ∷ xs) ≡ key x ∷ keys key cmp (drop (run_length (same (key x)) xs) xs)
    keys_step x xs r =
        same_ascending cmp (strict order) (keys key cmp (x ∷ xs)) (key x ∷ keys key cmp D) (ascending-is cmp (as_order order) (map key (x ∷ xs)))
        (before_all (key x) (keys key cmp D) (λ z h. Has-past (key x) z D parts.1 (ascending-of cmp z (map key D) h)), ascending-is cmp (as_order order) (map key D))
        (λ z h. there z (ascending-of cmp z (map key (x ∷ xs)) h)) back
      where
        n : ℕ
        n = run_length (same (key x)) xs

        D : List X
        D = drop n xs

        parts : AreSplit (key x) xs
        parts = split (key x) xs r.0 r.1

        further : (z : K) → Has cmp z (map key (take n xs)) ⊎ Has cmp z (map key D) → Has cmp z (key x ∷ keys key cmp D)
        further z (inl a) = inl (Has-equal (key x) z (take n xs) parts.0 a)
        further z (inr b) = inr (ascending-has cmp exact z (map key D) b)

        there : (z : K) → Has cmp z (map key (x ∷ xs)) → Has cmp z (key x ∷ keys key cmp D)
        there z (inl e) = inl e
        there z (inr m) = further z (Has-parted n z xs m)

        back : (z : K) → Has cmp z (key x ∷ keys key cmp D) → Has cmp z (keys key cmp (x ∷ xs))
        back z (inl e) = ascending-has cmp exact z (map key (x ∷ xs)) (inl e)
        back z (inr m) = ascending-has cmp exact z (map key (x ∷ xs)) (inr (Has-dropped n z xs (ascending-of cmp z (map key D) m)))

    kept_equal : (k : K) (ys : List X) → AllEqual k ys → members key cmp ys k ≡ ys
    kept_equal k [] h = refl
    kept_equal k (y ∷ ys) h = rw h.0 (ap (λ zs. y ∷ zs) (kept_equal k ys h.1))

    kept_past : (k : K) (ys : List X) → AllPast k ys → members key cmp ys k ≡ []
    kept_past k [] h = refl
    kept_past k (y ∷ ys) h =
        let greater : cmp (key y) k ≡ Greater = order.antisymm (key y) k ∙ ap ordering_reverse h.0 in
        rw greater (kept_past k ys h.1)

    -- none of those equal to l is equal to k, which comes after l
    kept_other : (l k : K) (ys : List X) → cmp l k ≡ Less → AllEqual l ys → members key cmp ys k ≡ []
    kept_other l k [] less h = refl
    kept_other l k (y ∷ ys) less h =
        let lesser : cmp (key y) k ≡ Less = order.congr (key y) l k h.0 ∙ less in
        rw lesser (kept_other l k ys less h.1)

    parted_by : (n : ℕ) (k : K) (y : X) (ys : List X) (o : Ordering) → cmp (key y) k ≡ o → members key cmp ys k ≡ members key cmp (take n ys) k ++ members key cmp (drop n ys) k
        → members key cmp (y ∷ ys) k ≡ members key cmp (take (suc n) (y ∷ ys)) k ++ members key cmp (drop (suc n) (y ∷ ys)) k
    parted_by n k y ys Less e more = rw e more
    parted_by n k y ys Equal e more = rw e (ap (λ zs. y ∷ zs) more)
    parted_by n k y ys Greater e more = rw e more

    members_parted : (n : ℕ) (k : K) (ys : List X) → members key cmp ys k ≡ members key cmp (take n ys) k ++ members key cmp (drop n ys) k
    members_parted zero k ys = refl
    members_parted (suc n) k [] = refl
    members_parted (suc n) k (y ∷ ys) = parted_by n k y ys (cmp (key y) k) refl (members_parted n k ys)

    append_none : (xs ys zs : List X) → ys ≡ xs → zs ≡ [] → ys ++ zs ≡ xs
    append_none [] ys zs e f = rw (e, f) refl
    append_none (x ∷ xs) ys zs e f = rw (e, f) (ap (λ t. x ∷ t) (append_none xs xs [] refl refl))

    map_same : {B : Type 0} (f g : K → B) (ks : List K) → ((k : K) → Has cmp k ks → f k ≡ g k) → map f ks ≡ map g ks
    map_same f g [] h = refl
    map_same f g (k ∷ ks) h = rw (h k (inl refl), map_same f g ks (λ l m. h l (inr m))) refl

    -- The groups of a list are its first one, and those of the rest.
    pub groups_step : {B : Type 0} (f : List X → B) (x : X) (xs : List X) → KeysRise (x ∷ xs)
        → groups f (x ∷ xs) ≡ f (x ∷ take (run_length (same (key x)) xs) xs) ∷ groups f (drop (run_length (same (key x)) xs) xs)
    groups_step f x xs r =
        ap (map (λ k. f (members key cmp (x ∷ xs) k))) (keys_step x xs r)
        ∙ rw (ap f mine, map_same (λ k. f (members key cmp (x ∷ xs) k)) (λ k. f (members key cmp D k)) (keys key cmp D) (λ k h. ap f (others k h))) refl
      where
        n : ℕ
        n = run_length (same (key x)) xs

        D : List X
        D = drop n xs

        parts : AreSplit (key x) xs
        parts = split (key x) xs r.0 r.1

        itself : cmp (key x) (key x) ≡ Equal
        itself = tied_itself order (key x)

        mine : members key cmp (x ∷ xs) (key x) ≡ x ∷ take n xs
        mine = rw itself (ap (λ zs. x ∷ zs) (members_parted n (key x) xs ∙ append_none (take n xs) (members key cmp (take n xs) (key x)) (members key cmp D (key x)) (kept_equal (key x) (take n xs) parts.0) (kept_past (key x) D parts.1)))

        others : (k : K) → Has cmp k (keys key cmp D) → members key cmp (x ∷ xs) k ≡ members key cmp D k
        others k h =
            let less : cmp (key x) k ≡ Less = Has-past (key x) k D parts.1 (ascending-of cmp k (map key D) h) in
            let none : members key cmp (take n xs) k ≡ [] = kept_other (key x) k (take n xs) less parts.0 in
            rw (less, members_parted n k xs, none) refl
