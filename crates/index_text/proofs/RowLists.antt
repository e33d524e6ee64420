-- The lists of postings, made from the labels of rows in their order, are those of the rows that have a label.
use Rattle.std.proofs.Common.{◌≡◌, ℕ, suc, ◌+◌, ◌<◌, ◌≤◌, ◌⊎◌, inl, inr, Bool, true, false, cond, List, [], ◌∷◌, ◌++◌, length, get_or, map, filter, refl, sym, ap, subst, ◌∙◌, append_assoc, arith}
use Rattle.std.specs.Prelude.{◌||◌}
use Rattle.std.specs.List.{All, flat_map, list_any, zip}
use Rattle.std.proofs.lemmas.List.Elements.{All-cons, All-nil}
use Rattle.std.specs.Ordering.{nat_cmp, is_eq, ordering_then}
use Rattle.std.specs.declared.cmp.Ordering.{Ordering}
use Rattle.std.specs.declared.cmp.Ordering.TheVariants.{Less, Equal, Greater}
use Rattle.std.specs.Cmp.{nat_cmp_is}
use Rattle.std.proofs.lemmas.Cmp.{tied_itself}
use Rattle.std.proofs.lemmas.List.{map-append, length-append, get_or-append-add}
use Rattle.std.proofs.lemmas.List.Concat.{flat_map-cons}
use Rattle.wal_record.specs.declared.labels.Label.{Label}
use Rattle.wal_record.specs.Labels.{compare_label}
use Rattle.index_text.specs.declared.row.IndexRow.{IndexRow}
use Rattle.index_text.specs.Groups.{keys, members}
use Rattle.index_text.specs.Index.{has_pair, labels_from, pairs}
use Rattle.index_text.specs.declared.ordering.RowLabel.{RowLabel}
use Rattle.index_text.specs.Lent.{compare_row_label, row_label_of}
use Rattle.index_text.specs.Posted.{ids_at, ids_of}
use Rattle.index_text.specs.Sets.{IsBefore, IsAscending, ascending}
use Rattle.index_text.proofs.Ranks.{Has, same_ascending, ascending-is, ascending-has, ascending-of}
use Rattle.index_text.proofs.Orders.{as_order, strict, label_exact, label_total, row_label_exact, row_label_total}

-- ---- what lists have

module _ {A : Type 0} (cmp : A → A → Ordering) where
  pub Has-left : (z : A) (xs ys : List A) → Has cmp z xs → Has cmp z (xs ++ ys)
  Has-left z [] ys h = absurd h
  Has-left z (x ∷ xs) ys (inl e) = inl e
  Has-left z (x ∷ xs) ys (inr m) = inr (Has-left z xs ys m)

  pub Has-right : (z : A) (xs ys : List A) → Has cmp z ys → Has cmp z (xs ++ ys)
  Has-right z [] ys h = h
  Has-right z (x ∷ xs) ys h = inr (Has-right z xs ys h)

  pub Has-of_append : (z : A) (xs ys : List A) → Has cmp z (xs ++ ys) → Has cmp z xs ⊎ Has cmp z ys
  Has-of_append z [] ys h = inr h
  Has-of_append z (x ∷ xs) ys (inl e) = inl (inl e)
  Has-of_append z (x ∷ xs) ys (inr m) = further (Has-of_append z xs ys m)
    where
      further : Has cmp z xs ⊎ Has cmp z ys → Has cmp z (x ∷ xs) ⊎ Has cmp z ys
      further (inl a) = inl (inr a)
      further (inr b) = inr b

  kept_by : (p : A → Bool) (z x : A) (xs : List A) (b : Bool) → p x ≡ b → Has cmp z (cond b (x ∷ filter p xs) (filter p xs)) → (Has cmp z (filter p xs) → Has cmp z xs × (p z ≡ true)) → Has cmp z (x ∷ xs) × (p z ≡ true)
  kept_by p z x xs true e (inl same) rest = (inl same, ap p same ∙ e)
  kept_by p z x xs true e (inr m) rest = let r = rest m in (inr r.0, r.1)
  kept_by p z x xs false e h rest = let r = rest h in (inr r.0, r.1)

  pub Has-of_filter : (p : A → Bool) (z : A) (xs : List A) → Has cmp z (filter p xs) → Has cmp z xs × (p z ≡ true)
  Has-of_filter p z [] h = absurd h
  Has-of_filter p z (x ∷ xs) h = kept_by p z x xs (p x) refl h (Has-of_filter p z xs)

  keep_by : (p : A → Bool) (z x : A) (xs : List A) (b : Bool) → p x ≡ b → Has cmp z (x ∷ xs) → p z ≡ true → (Has cmp z xs → Has cmp z (filter p xs)) → Has cmp z (cond b (x ∷ filter p xs) (filter p xs))
  keep_by p z x xs true e (inl same) t rest = inl same
  keep_by p z x xs true e (inr m) t rest = inr (rest m)
  keep_by p z x xs false e (inl same) t rest = absurd (let no : p z ≡ false = ap p same ∙ e in cc)
  keep_by p z x xs false e (inr m) t rest = rest m

  pub Has-filter : (p : A → Bool) (z : A) (xs : List A) → Has cmp z xs → p z ≡ true → Has cmp z (filter p xs)
  Has-filter p z [] h t = absurd h
  Has-filter p z (x ∷ xs) h t = keep_by p z x xs (p x) refl h t (λ m. Has-filter p z xs m t)

  before_filter : (p : A → Bool) (y : A) (xs : List A) → IsBefore cmp y xs → IsBefore cmp y (filter p xs)
  before_filter p y [] h = tt
  before_filter p y (x ∷ xs) h = by (p x) (before_filter p y xs h.1)
    where
      by : (b : Bool) → IsBefore cmp y (filter p xs) → IsBefore cmp y (cond b (x ∷ filter p xs) (filter p xs))
      by true rest = (h.0, rest)
      by false rest = rest

  pub IsAscending-filter : (p : A → Bool) (xs : List A) → IsAscending cmp xs → IsAscending cmp (filter p xs)
  IsAscending-filter p [] h = tt
  IsAscending-filter p (x ∷ xs) h = by (p x) (before_filter p x xs h.0) (IsAscending-filter p xs h.1)
    where
      by : (b : Bool) → IsBefore cmp x (filter p xs) → IsAscending cmp (filter p xs) → IsAscending cmp (cond b (x ∷ filter p xs) (filter p xs))
      by true first rest = (first, rest)
      by false first rest = rest

pub Has-map : {A B : Type 0} (f : A → B) (R : A → A → Ordering) (S : B → B → Ordering) (x : A) (xs : List A) → Has R x xs → Has S (f x) (map f xs)
Has-map f R S x [] h = absurd h
Has-map f R S x (y ∷ ys) (inl e) = inl (ap f e)
Has-map f R S x (y ∷ ys) (inr m) = inr (Has-map f R S x ys m)

pub Has-of_map : {A B : Type 0} (f : A → B) (R : A → A → Ordering) (S : B → B → Ordering) (z : B) (xs : List A) → Has S z (map f xs) → (x : A) × Has R x xs × (z ≡ f x)
Has-of_map f R S z [] h = absurd h
Has-of_map f R S z (y ∷ ys) (inl e) = (y, inl refl, e)
Has-of_map f R S z (y ∷ ys) (inr m) = let more = Has-of_map f R S z ys m in (more.0, inr more.1, more.2)

-- ---- the labels of rows

firsts : (i : ℕ) (rows : List IndexRow) → map (λ (l : Label × ℕ). l.0) (labels_from i rows) ≡ flat_map (λ (r : IndexRow). r.labels) rows
firsts i [] = refl
firsts i (r ∷ rows) =
    map-append (λ (l : Label × ℕ). l.0) (map (λ (l : Label). (l, i)) r.labels) (labels_from (i + 1) rows)
    ∙ ap (λ t. t ++ map (λ (l : Label × ℕ). l.0) (labels_from (i + 1) rows)) (same r.labels)
    ∙ ap (λ t. r.labels ++ t) (firsts (i + 1) rows) ∙ sym (flat_map-cons (λ (r : IndexRow). r.labels) r rows)
  where
    same : (ls : List Label) → map (λ (l : Label × ℕ). l.0) (map (λ (l : Label). (l, i)) ls) ≡ ls
    same [] = refl
    same (l ∷ ls) = ap (λ t. l ∷ t) (same ls)

-- the labels of rows, in any order, are those of the rows
pub pairs_are : (rows : List IndexRow) → keys (λ (l : Label × ℕ). l.0) compare_label (ascending compare_row_label (labels_from 0 rows)) ≡ pairs rows
unfolding pairs
pairs_are rows =
    same_ascending compare_label (strict label_total) (ascending compare_label (map (λ (l : Label × ℕ). l.0) (ascending compare_row_label (labels_from 0 rows)))) (ascending compare_label (flat_map (λ (r : IndexRow). r.labels) rows))
    (ascending-is compare_label (as_order label_total) (map (λ (l : Label × ℕ). l.0) (ascending compare_row_label (labels_from 0 rows)))) (ascending-is compare_label (as_order label_total) (flat_map (λ (r : IndexRow). r.labels) rows)) there back
  where
    there : (z : Label) → Has compare_label z (ascending compare_label (map (λ (l : Label × ℕ). l.0) (ascending compare_row_label (labels_from 0 rows)))) → Has compare_label z (ascending compare_label (flat_map (λ (r : IndexRow). r.labels) rows))
    there z h =
        let x = Has-of_map (λ (l : Label × ℕ). l.0) compare_row_label compare_label z (ascending compare_row_label (labels_from 0 rows)) (ascending-of compare_label z (map (λ (l : Label × ℕ). l.0) (ascending compare_row_label (labels_from 0 rows))) h) in
        let y = Has-map (λ (l : Label × ℕ). l.0) compare_row_label compare_label x.0 (labels_from 0 rows) (ascending-of compare_row_label x.0 (labels_from 0 rows) x.1) in
        ascending-has compare_label label_exact z (flat_map (λ (r : IndexRow). r.labels) rows) (subst (λ t. Has compare_label z t) (firsts 0 rows) (subst (λ l. Has compare_label l (map (λ (l : Label × ℕ). l.0) (labels_from 0 rows))) (sym x.2) y))

    back : (z : Label) → Has compare_label z (ascending compare_label (flat_map (λ (r : IndexRow). r.labels) rows)) → Has compare_label z (ascending compare_label (map (λ (l : Label × ℕ). l.0) (ascending compare_row_label (labels_from 0 rows))))
    back z h =
        let x = Has-of_map (λ (l : Label × ℕ). l.0) compare_row_label compare_label z (labels_from 0 rows) (subst (λ t. Has compare_label z t) (sym (firsts 0 rows)) (ascending-of compare_label z (flat_map (λ (r : IndexRow). r.labels) rows) h)) in
        let y = Has-map (λ (l : Label × ℕ). l.0) compare_row_label compare_label x.0 (ascending compare_row_label (labels_from 0 rows)) (ascending-has compare_row_label row_label_exact x.0 (labels_from 0 rows) x.1) in
        ascending-has compare_label label_exact z (map (λ (l : Label × ℕ). l.0) (ascending compare_row_label (labels_from 0 rows))) (subst (λ l. Has compare_label l (map (λ (l : Label × ℕ). l.0) (ascending compare_row_label (labels_from 0 rows)))) (sym x.2) y)

-- the places of the rows that have the label
abbrev holders : Label → ℕ → List IndexRow → List ℕ
holders p i [] = []
holders p i (r ∷ rows) = cond (has_pair p r) (i ∷ holders p (i + 1) rows) (holders p (i + 1) rows)

-- ---- the labels of rows that are one label

any_equal : (p : Label) (ls : List Label) → Has compare_label p ls → list_any (λ q. is_eq (compare_label p q)) ls ≡ true
any_equal p [] h = absurd h
any_equal p (l ∷ ls) (inl e) = rw (ap (compare_label p) (sym e) ∙ tied_itself label_total p) refl
any_equal p (l ∷ ls) (inr m) = by (is_eq (compare_label p l)) (any_equal p ls m)
  where
    by : (b : Bool) → list_any (λ q. is_eq (compare_label p q)) ls ≡ true → (b || list_any (λ q. is_eq (compare_label p q)) ls) ≡ true
    by true e = refl
    by false e = e

equal_is : (o : Ordering) → is_eq o ≡ true → o ≡ Equal
equal_is Less e = absurd cc
equal_is Equal e = refl
equal_is Greater e = absurd cc

any_has : (p : Label) (ls : List Label) → list_any (λ q. is_eq (compare_label p q)) ls ≡ true → Has compare_label p ls
any_has p [] e = absurd cc
any_has p (l ∷ ls) e = by (is_eq (compare_label p l)) refl e (any_has p ls)
  where
    by : (b : Bool) → is_eq (compare_label p l) ≡ b → (b || list_any (λ q. is_eq (compare_label p q)) ls) ≡ true → (list_any (λ q. is_eq (compare_label p q)) ls ≡ true → Has compare_label p ls) → Has compare_label p (l ∷ ls)
    by true d t rest = inl (label_exact p l (equal_is (compare_label p l) d))
    by false d t rest = inr (rest t)

-- each place is at least i
holders_from : (p : Label) (i j k : ℕ) (rows : List IndexRow) → j ≤ i → Has nat_cmp k (holders p i rows) → j ≤ k
holders_from p i j k [] le h = absurd h
holders_from p i j k (r ∷ rows) le h = by (has_pair p r) h (λ m. holders_from p (i + 1) j k rows (omega (arith, le)) m)
  where
    by : (b : Bool) → Has nat_cmp k (cond b (i ∷ holders p (i + 1) rows) (holders p (i + 1) rows)) → (Has nat_cmp k (holders p (i + 1) rows) → j ≤ k) → j ≤ k
    by true (inl e) rest = omega (arith, e, le)
    by true (inr m) rest = rest m
    by false m rest = rest m

less_is : (m n : ℕ) → m < n → nat_cmp m n ≡ Less
less_is m n lt = sym (nat_cmp_is m n Less (omega (arith, lt)))

-- the places with the label beside them
abbrev beside : Label → List ℕ → List (Label × ℕ)
beside p ks = map (λ (k : ℕ). (p, k)) ks

before_beside : (p : Label) (i : ℕ) (ks : List ℕ) → ((k : ℕ) → Has nat_cmp k ks → i < k) → IsBefore compare_row_label (p, i) (beside p ks)
before_beside p i [] h = tt
before_beside p i (k ∷ ks) h = (ap (λ o. ordering_then o (nat_cmp i k)) (tied_itself label_total p) ∙ less_is i k (h k (inl refl)), before_beside p i ks (λ j m. h j (inr m)))

beside_ascending : (p : Label) (i : ℕ) (rows : List IndexRow) → IsAscending compare_row_label (beside p (holders p i rows))
beside_ascending p i [] = tt
beside_ascending p i (r ∷ rows) = by (has_pair p r) (beside_ascending p (i + 1) rows)
  where
    by : (b : Bool) → IsAscending compare_row_label (beside p (holders p (i + 1) rows)) → IsAscending compare_row_label (beside p (cond b (i ∷ holders p (i + 1) rows) (holders p (i + 1) rows)))
    by true rest = (before_beside p i (holders p (i + 1) rows) (λ k m. let low : i + 1 ≤ k = holders_from p (i + 1) (i + 1) k rows (omega arith) m in omega (arith, low)), rest)
    by false rest = rest

-- a label of a row, and the row's place, are among the labels of rows just where the place is a holder's
holder_of : (p : Label) (k i : ℕ) (rows : List IndexRow) → Has compare_row_label (p, k) (labels_from i rows) → Has nat_cmp k (holders p i rows)
holder_of p k i [] h = absurd h
holder_of p k i (r ∷ rows) h = split (Has-of_append compare_row_label (p, k) (map (λ (l : Label). (l, i)) r.labels) (labels_from (i + 1) rows) h) (holder_of p k (i + 1) rows)
  where
    later : (b : Bool) → Has nat_cmp k (holders p (i + 1) rows) → Has nat_cmp k (cond b (i ∷ holders p (i + 1) rows) (holders p (i + 1) rows))
    later true m = inr m
    later false m = m

    split : Has compare_row_label (p, k) (map (λ (l : Label). (l, i)) r.labels) ⊎ Has compare_row_label (p, k) (labels_from (i + 1) rows) → (Has compare_row_label (p, k) (labels_from (i + 1) rows) → Has nat_cmp k (holders p (i + 1) rows)) → Has nat_cmp k (holders p i (r ∷ rows))
    split (inl a) rest =
        let x = Has-of_map (λ (l : Label). (l, i)) compare_label compare_row_label (p, k) r.labels a in
        let same : p ≡ x.0 = ap (λ (y : Label × ℕ). y.0) x.2 in
        let here : k ≡ i = ap (λ (y : Label × ℕ). y.1) x.2 in
        let holds : has_pair p r ≡ true = any_equal p r.labels (subst (λ l. Has compare_label l r.labels) (sym same) x.1) in
        rw holds (inl here)
    split (inr b) rest = later (has_pair p r) (rest b)

of_holder : (p : Label) (k i : ℕ) (rows : List IndexRow) → Has nat_cmp k (holders p i rows) → Has compare_row_label (p, k) (labels_from i rows)
of_holder p k i [] h = absurd h
of_holder p k i (r ∷ rows) h = by (has_pair p r) refl h (of_holder p k (i + 1) rows)
  where
    by : (b : Bool) → has_pair p r ≡ b → Has nat_cmp k (cond b (i ∷ holders p (i + 1) rows) (holders p (i + 1) rows)) → (Has nat_cmp k (holders p (i + 1) rows) → Has compare_row_label (p, k) (labels_from (i + 1) rows)) → Has compare_row_label (p, k) (labels_from i (r ∷ rows))
    by true e (inl here) rest =
        let l = any_has p r.labels e in
        Has-left compare_row_label (p, k) (map (λ (x : Label). (x, i)) r.labels) (labels_from (i + 1) rows) (subst (λ n. Has compare_row_label (p, n) (map (λ (x : Label). (x, i)) r.labels)) (sym here) (Has-map (λ (x : Label). (x, i)) compare_label compare_row_label p r.labels l))
    by true e (inr m) rest = Has-right compare_row_label (p, k) (map (λ (x : Label). (x, i)) r.labels) (labels_from (i + 1) rows) (rest m)
    by false e m rest = Has-right compare_row_label (p, k) (map (λ (x : Label). (x, i)) r.labels) (labels_from (i + 1) rows) (rest m)

members_are : (p : Label) (rows : List IndexRow) → members (λ (l : Label × ℕ). l.0) compare_label (ascending compare_row_label (labels_from 0 rows)) p ≡ beside p (holders p 0 rows)
members_are p rows =
    same_ascending compare_row_label (strict row_label_total) (members (λ (l : Label × ℕ). l.0) compare_label (ascending compare_row_label (labels_from 0 rows)) p) (beside p (holders p 0 rows))
    (IsAscending-filter compare_row_label (λ (l : Label × ℕ). is_eq (compare_label l.0 p)) (ascending compare_row_label (labels_from 0 rows)) (ascending-is compare_row_label (as_order row_label_total) (labels_from 0 rows)))
    (beside_ascending p 0 rows) there back
  where
    test : Label × ℕ → Bool
    test l = is_eq (compare_label l.0 p)

    there : (z : Label × ℕ) → Has compare_row_label z (filter (λ (l : Label × ℕ). is_eq (compare_label l.0 p)) (ascending compare_row_label (labels_from 0 rows))) → Has compare_row_label z (beside p (holders p 0 rows))
    there (q, k) h =
        let x = Has-of_filter compare_row_label (λ (l : Label × ℕ). is_eq (compare_label l.0 p)) (q, k) (ascending compare_row_label (labels_from 0 rows)) h in
        let same : q ≡ p = label_exact q p (equal_is (compare_label q p) x.1) in
        let m = ascending-of compare_row_label (q, k) (labels_from 0 rows) x.0 in
        let holds = holder_of p k 0 rows (subst (λ l. Has compare_row_label (l, k) (labels_from 0 rows)) same m) in
        subst (λ l. Has compare_row_label (l, k) (beside p (holders p 0 rows))) (sym same) (Has-map (λ (n : ℕ). (p, n)) nat_cmp compare_row_label k (holders p 0 rows) holds)

    back : (z : Label × ℕ) → Has compare_row_label z (beside p (holders p 0 rows)) → Has compare_row_label z (filter (λ (l : Label × ℕ). is_eq (compare_label l.0 p)) (ascending compare_row_label (labels_from 0 rows)))
    back z h =
        let x = Has-of_map (λ (n : ℕ). (p, n)) nat_cmp compare_row_label z (holders p 0 rows) h in
        let m = ascending-has compare_row_label row_label_exact (p, x.0) (labels_from 0 rows) (of_holder p x.0 0 rows x.1) in
        let passes : is_eq (compare_label p p) ≡ true = ap is_eq (tied_itself label_total p) in
        subst (λ y. Has compare_row_label y (filter (λ (l : Label × ℕ). is_eq (compare_label l.0 p)) (ascending compare_row_label (labels_from 0 rows)))) (sym x.2)
        (Has-filter compare_row_label (λ (l : Label × ℕ). is_eq (compare_label l.0 p)) (p, x.0) (ascending compare_row_label (labels_from 0 rows)) m passes)

-- ---- the ids of the rows that have the label

ids_behind : (p : Label) (front ids : List ℕ) (rows : List IndexRow) → length ids ≡ length rows
    → map (λ (k : ℕ). get_or (front ++ ids) k 0) (holders p (length front) rows) ≡ map (λ (x : ℕ × IndexRow). x.0) (filter (λ (x : ℕ × IndexRow). has_pair p x.1) (zip ids rows))
ids_behind p front [] [] e = refl
ids_behind p front [] (r ∷ rows) e = absurd (omega (arith, e))
ids_behind p front (id ∷ ids) [] e = absurd (omega (arith, e))
ids_behind p front (id ∷ ids) (r ∷ rows) e =
    let grown : length (front ++ id ∷ []) ≡ length front + 1 = length-append front (id ∷ []) in
    let regrouped : (front ++ id ∷ []) ++ ids ≡ front ++ id ∷ ids = append_assoc front (id ∷ []) ids in
    let rest : map (λ (k : ℕ). get_or (front ++ id ∷ ids) k 0) (holders p (length front + 1) rows) ≡ map (λ (x : ℕ × IndexRow). x.0) (filter (λ (x : ℕ × IndexRow). has_pair p x.1) (zip ids rows)) =
    (ap (λ t. map (λ (k : ℕ). get_or t k 0) (holders p (length front + 1) rows)) (sym regrouped) ∙ ap (λ n. map (λ (k : ℕ). get_or ((front ++ id ∷ []) ++ ids) k 0) (holders p n rows)) (sym grown) ∙ ids_behind p (front ++ id ∷ []) ids rows (omega (arith, e))) in
    by (has_pair p r) rest
  where
    own : get_or (front ++ id ∷ ids) (length front) 0 ≡ id
    own = let z : length front ≡ length front + 0 = omega arith in ap (λ k. get_or (front ++ id ∷ ids) k 0) z ∙ get_or-append-add front (id ∷ ids) 0 0

    by : (b : Bool) → map (λ (k : ℕ). get_or (front ++ id ∷ ids) k 0) (holders p (length front + 1) rows) ≡ map (λ (x : ℕ × IndexRow). x.0) (filter (λ (x : ℕ × IndexRow). has_pair p x.1) (zip ids rows))
        → map (λ (k : ℕ). get_or (front ++ id ∷ ids) k 0) (cond b (length front ∷ holders p (length front + 1) rows) (holders p (length front + 1) rows))
        ≡ map (λ (x : ℕ × IndexRow). x.0) (cond b ((id, r) ∷ filter (λ (x : ℕ × IndexRow). has_pair p x.1) (zip ids rows)) (filter (λ (x : ℕ × IndexRow). has_pair p x.1) (zip ids rows)))
    by true rest = rw (own, rest) refl
    by false rest = rest

map-beside : (p : Label) (f : ℕ → ℕ) (ks : List ℕ) → map (λ (l : Label × ℕ). f l.1) (beside p ks) ≡ map f ks
map-beside p f [] = refl
map-beside p f (k ∷ ks) = ap (λ t. f k ∷ t) (map-beside p f ks)

pub ids_are : (ids : List ℕ) (rows : List IndexRow) (p : Label) → length ids ≡ length rows
    → ids_of ids (ascending compare_row_label (labels_from 0 rows)) p ≡ map (λ (x : ℕ × IndexRow). x.0) (filter (λ (x : ℕ × IndexRow). has_pair p x.1) (zip ids rows))
ids_are ids rows p e = ap (ids_at ids) (members_are p rows) ∙ map-beside p (λ k. get_or ids k 0) (holders p 0 rows) ∙ ids_behind p [] ids rows e

-- ---- the places of rows are below their number

pub place_below : (z : Label × ℕ) (i : ℕ) (rows : List IndexRow) → Has compare_row_label z (labels_from i rows) → z.1 < i + length rows
place_below z i [] h = absurd h
place_below z i (r ∷ rows) h = by (Has-of_append compare_row_label z (map (λ (l : Label). (l, i)) r.labels) (labels_from (i + 1) rows) h) (place_below z (i + 1) rows)
  where
    by : Has compare_row_label z (map (λ (l : Label). (l, i)) r.labels) ⊎ Has compare_row_label z (labels_from (i + 1) rows) → (Has compare_row_label z (labels_from (i + 1) rows) → z.1 < i + 1 + length rows) → z.1 < i + suc (length rows)
    by (inl a) rest = let x = Has-of_map (λ (l : Label). (l, i)) compare_label compare_row_label z r.labels a in let here : z.1 ≡ i = ap (λ (y : Label × ℕ). y.1) x.2 in omega (arith, here)
    by (inr b) rest = omega (arith, rest b)

below_each : (n : ℕ) (ls : List RowLabel) → ((z : Label × ℕ) → Has compare_row_label z (map row_label_of ls) → z.1 < n) → All (λ (l : RowLabel). l.row < n) ls
below_each n [] h = All-nil (λ (l : RowLabel). l.row < n)
below_each n (l ∷ ls) h = All-cons (λ (l : RowLabel). l.row < n) l ls (h (row_label_of l) (inl refl)) (below_each n ls (λ z m. h z (inr m)))

pub all_below : (ls : List RowLabel) (rows : List IndexRow) → map row_label_of ls ≡ ascending compare_row_label (labels_from 0 rows) → All (λ (l : RowLabel). l.row < length rows) ls
all_below ls rows e =
    below_each (length rows) ls (λ z h.
    let low = place_below z 0 rows (ascending-of compare_row_label z (labels_from 0 rows) (subst (Has compare_row_label z) e h)) in
    omega (arith, low))
