-- The series of a table.
use Rattle.std.proofs.Common.{get_or, ◌⊎◌, inl, inr, ◌≡◌, ℕ, zero, suc, ◌+◌, ◌<◌, ◌≤◌, Bool, true, false, List, [], ◌∷◌, ◌++◌, Some, None, ap, sym, subst, ◌∙◌, refl, arith, length, take}
use Rattle.wal_record.specs.declared.labels.Label.{Label}
use Rattle.wal_record.specs.Labels.{same_text, same_labels}
use Rattle.wal_record.proofs.Equality.{labels_same}
use Rattle.head_series.specs.Table.{Labels}
use Rattle.hash_seed.specs.declared.seed.HashSeed.{HashSeed}
use Rattle.head_series.specs.Rows.{label, named, labels_in, labels_hash, IsLast, IsChained, AreWithin, AreAllWithin}
use Rattle.head_series.specs.Texts.{Text, place}
use Rattle.std.specs.Option.{option_map}
use Rattle.std.proofs.lemmas.List.{length-map}
use Rattle.std.proofs.lemmas.Option.{slice_get_read}
use Rattle.head_series.proofs.Places.{same_text_refl, same_text_exact}
use Rattle.std.specs.Prelude.{slice_index, not, map, slice_get, slice_index_or, if◌then◌else◌}
use Rattle.std.proofs.lemmas.List.{map-append}
use Rattle.head_series.proofs.TextLemmas.{take_more}

pub within_at : (many : ℕ) (ns : List (ℕ × ℕ)) (i : ℕ) (n : ℕ × ℕ) → AreWithin many ns → slice_get ns i ≡ Some n → (n.0 < many) × (n.1 < many)
within_at many [] i n h e = cc
within_at many (m ∷ ns) zero n (a, b, c) e = let k : m ≡ n = cc in subst (λ q. (q.0 < many) × (q.1 < many)) k (a, b)
within_at many (m ∷ ns) (suc i) n (a, b, c) e = within_at many ns i n c e

pub get_map : {A B : Type 0} (f : A → B) (xs : List A) (i : ℕ) (x : A) → slice_get xs i ≡ Some x → slice_get (map f xs) i ≡ Some (f x)
get_map f [] i x h = cc
get_map f (y ∷ ys) zero x h = let k : y ≡ x = cc in ap (λ z. Some (f z)) k
get_map f (y ∷ ys) (suc i) x h = get_map f ys i x h

-- one label more is named
pub named_more : (ls : List Label) (ts : List Text) (ns : List (ℕ × ℕ)) (i : ℕ) (l : Label) (n : ℕ × ℕ)
    → take i ls ≡ labels_in ts (take i ns) → slice_get ls i ≡ Some l → slice_get ns i ≡ Some n → named ts n ≡ l → take (i + 1) ls ≡ labels_in ts (take (i + 1) ns)
named_more ls ts ns i l n h e f g =
    take_more ls i l e ∙ ap (λ z. z ++ l ∷ []) h ∙ ap (λ z. labels_in ts (take i ns) ++ z ∷ []) (sym g)
    ∙ sym (map-append (named ts) (take i ns) (n ∷ [])) ∙ ap (labels_in ts) (sym (take_more ns i n f))

-- a label that differs
pub named_not : (ls : List Label) (ts : List Text) (ns : List (ℕ × ℕ)) (i : ℕ) (l : Label) (n : ℕ × ℕ)
    → slice_get ls i ≡ Some l → slice_get ns i ≡ Some n → (named ts n ≡ l → ⊥) → ls ≡ labels_in ts ns → ⊥
named_not ls ts ns i l n e f g h =
    let k : Some l ≡ Some (named ts n) = sym e ∙ ap (λ z. slice_get z i) h ∙ get_map (named ts) ns i n f in
    g (let m : l ≡ named ts n = cc in sym m)

pub text_is : (ts : List Text) (n : ℕ) (t : Text) → slice_get ts n ≡ Some t → slice_index_or ts n [] ≡ t
text_is [] n t h = cc
text_is (u ∷ ts) zero t h = cc
text_is (u ∷ ts) (suc n) t h = text_is ts n t h

pub differ : (a b : Text) → true ≡ not (same_text a b) → a ≡ b → ⊥
differ a b h e = let k : same_text a b ≡ true = ap (λ z. same_text a z) (sym e) ∙ same_text_refl a in let m : true ≡ false = h ∙ ap not k in absurd (cc)

pub agree : (a b : Text) → false ≡ not (same_text a b) → a ≡ b
agree a b h = at (same_text a b) refl h where
  at : (c : Bool) → same_text a b ≡ c → false ≡ not c → a ≡ b
  at true e h = same_text_exact a b e
  at false e h = cc

pub name_differs : (ts : List Text) (n : ℕ × ℕ) (l : Label) (t : Text) → slice_get ts n.0 ≡ Some t → true ≡ not (same_text t l.name) → named ts n ≡ l → ⊥
name_differs ts n l t g h e = differ t l.name h (sym (text_is ts n.0 t g) ∙ ap (λ (z : Label). z.name) e)

pub value_differs : (ts : List Text) (n : ℕ × ℕ) (l : Label) (t : Text) → slice_get ts n.1 ≡ Some t → true ≡ not (same_text t l.value) → named ts n ≡ l → ⊥
value_differs ts n l t g h e = differ t l.value h (sym (text_is ts n.1 t g) ∙ ap (λ (z : Label). z.value) e)

pub named_is : (ts : List Text) (n : ℕ × ℕ) (l : Label) (t u : Text) → slice_get ts n.0 ≡ Some t → slice_get ts n.1 ≡ Some u → false ≡ not (same_text t l.name) → false ≡ not (same_text u l.value) → named ts n ≡ l
named_is ts n l t u g h e f =
    ap (λ z. label z (slice_index_or ts n.1 [])) (text_is ts n.0 t g ∙ agree t l.name e) ∙ ap (λ z. label l.name z) (text_is ts n.1 u h ∙ agree u l.value f)

pub place_absent : (l : Labels) (ss : List Labels) → ((i : ℕ) → slice_get ss i ≡ Some l → ⊥) → None ≡ place (same_labels l) ss
place_absent l [] h = refl
place_absent l (s ∷ ss) h = at (same_labels l s) refl (place_absent l ss (λ i e. h (suc i) e)) where
  at : (b : Bool) → same_labels l s ≡ b → None ≡ place (same_labels l) ss → None ≡ (if b then Some 0 else option_map (λ n. n + 1) (place (same_labels l) ss))
  at true e p = absurd (h 0 (ap Some (sym (labels_same.exact l s e))))
  at false e p = ap (option_map (λ n. n + 1)) p

-- how far the search has come: no series from b on is the label set, and next leads to the last before b with its number
abbrev pub IsSought : HashSeed → List Labels → Labels → ℕ → Type 0
IsSought seed ss l next = (b : ℕ) × (IsLast (map (labels_hash seed) ss) b (labels_hash seed l) next) × (b ≤ length ss) × ((s : ℕ) → b ≤ s → slice_get ss s ≡ Some l → ⊥)

split : (j b : ℕ) → (j < b) ⊎ (b ≤ j)
split j zero = inr (omega arith)
split zero (suc b) = inl (omega arith)
split (suc j) (suc b) = at (split j b) where
  at : (j < b) ⊎ (b ≤ j) → (suc j < suc b) ⊎ (suc b ≤ suc j)
  at (inl h) = inl (omega arith)
  at (inr h) = inr (omega arith)

get_within : {A : Type 0} (xs : List A) (i : ℕ) (x : A) → slice_get xs i ≡ Some x → i < length xs
get_within [] i x h = cc
get_within (y ∷ ys) zero x h = omega arith
get_within (y ∷ ys) (suc i) x h = let k = get_within ys i x h in omega (arith, k)

pub sought_first : (seed : HashSeed) (ss : List Labels) (l : Labels) (last : ℕ → ℕ) (befores : List ℕ) (n : ℕ) → IsChained (map (labels_hash seed) ss) last befores → n ≡ last (labels_hash seed l) → IsSought seed ss l n
sought_first seed ss l last befores n h e =
    let many : length (map (labels_hash seed) ss) ≡ length ss = simp length-map in (
      length ss,
      subst (λ k. IsLast (map (labels_hash seed) ss) (length ss) (labels_hash seed l) k) (sym e) (subst (λ k. IsLast (map (labels_hash seed) ss) k (labels_hash seed l) (last (labels_hash seed l))) many (h.ends (labels_hash seed l))),
      omega arith,
      λ s g f. absurd (let k = get_within ss s l f in omega (arith, g, k)),
    )

pub sought_next : (seed : HashSeed) (ss : List Labels) (l : Labels) (last : ℕ → ℕ) (befores : List ℕ) (n s : ℕ) → IsChained (map (labels_hash seed) ss) last befores → n ≡ s + 1 → (slice_get ss s ≡ Some l → ⊥) → IsSought seed ss l n → IsSought seed ss l (slice_index befores s)
sought_next seed ss l last befores n s h e not_it (b, i, w, f) =
    (s, h.before s (labels_hash seed l) (i.has s e), (let k = i.within in omega (arith, e, k, w)), λ j g m. rest j g m (split j (s + 1))) where
      past : (j : ℕ) → slice_get ss j ≡ Some l → s < j → (j < b) ⊎ (b ≤ j) → ⊥
      past j m q (inl u) = i.none j (omega (arith, e, q)) u (get_map (labels_hash seed) ss j l m)
      past j m q (inr u) = f j u m

      rest : (j : ℕ) → s ≤ j → slice_get ss j ≡ Some l → (j < s + 1) ⊎ (s + 1 ≤ j) → ⊥
      rest j g m (inl q) = not_it (subst (λ k. slice_get ss k ≡ Some l) (let k : j ≡ s = omega (arith, g, q) in k) m)
      rest j g m (inr q) = past j m (omega (arith, q)) (split j b)

pub sought_none : (seed : HashSeed) (ss : List Labels) (l : Labels) (n : ℕ) → n ≡ 0 → IsSought seed ss l n → None ≡ place (same_labels l) ss
sought_none seed ss l n e (b, i, w, f) = place_absent l ss (λ j m. at j m (split j b)) where
  at : (j : ℕ) → slice_get ss j ≡ Some l → (j < b) ⊎ (b ≤ j) → ⊥
  at j m (inl u) = i.none j (omega (arith, e)) u (get_map (labels_hash seed) ss j l m)
  at j m (inr u) = f j u m

pub sought_less : (seed : HashSeed) (ss : List Labels) (l : Labels) (last : ℕ → ℕ) (befores : List ℕ) (n s : ℕ) → IsChained (map (labels_hash seed) ss) last befores → n ≡ s + 1 → IsSought seed ss l n → slice_index befores s < n
sought_less seed ss l last befores n s h e (b, i, w, f) = let k = (h.before s (labels_hash seed l) (i.has s e)).within in omega (arith, k, e)

pub sought_within : (seed : HashSeed) (ss : List Labels) (l : Labels) (n s : ℕ) → n ≡ s + 1 → IsSought seed ss l n → s < length ss
sought_within seed ss l n s e (b, i, w, f) = let k = i.within in omega (arith, k, w, e)

pub all_within_at : (many : ℕ) (nss : List (List (ℕ × ℕ))) (i : ℕ) (ns : List (ℕ × ℕ)) → AreAllWithin many nss → slice_get nss i ≡ Some ns → AreWithin many ns
all_within_at many [] i ns h e = cc
all_within_at many (m ∷ nss) zero ns (a, b) e = let k : m ≡ ns = cc in subst (AreWithin many) k a
all_within_at many (m ∷ nss) (suc i) ns (a, b) e = all_within_at many nss i ns b e

pub index_is : (xs : List ℕ) (i n : ℕ) → slice_get xs i ≡ Some n → slice_index xs i ≡ n
index_is [] i n h = cc
index_is (x ∷ xs) zero n h = cc
index_is (x ∷ xs) (suc i) n h = index_is xs i n h

-- what a row has
pub row_numbers : {R : Type 0} (rows : List R) (f : R → List (ℕ × ℕ)) (ts : List Text) (ss : List Labels) (s : ℕ) (r : R)
    → map (labels_in ts) (map f rows) ≡ ss → s < length ss → r ≡ get_or rows s r → slice_get (map f rows) s ≡ Some (f r)
row_numbers rows f ts ss s r e w g =
    let many : length ss ≡ length rows = sym (ap length e) ∙ (simp length-map) in
    get_map f rows s r (slice_get_read rows (length rows) s r refl (omega (arith, w, many)) g)

pub row_before : {R : Type 0} (rows : List R) (f : R → List (ℕ × ℕ)) (h : R → ℕ) (ts : List Text) (ss : List Labels) (s : ℕ) (r : R)
    → map (labels_in ts) (map f rows) ≡ ss → s < length ss → r ≡ get_or rows s r → slice_index (map h rows) s ≡ h r
row_before rows f h ts ss s r e w g =
    let many : length ss ≡ length rows = sym (ap length e) ∙ (simp length-map) in
    index_is (map h rows) s (h r) (get_map h rows s r (slice_get_read rows (length rows) s r refl (omega (arith, w, many)) g))

pub row_series : {R : Type 0} (rows : List R) (f : R → List (ℕ × ℕ)) (ts : List Text) (ss : List Labels) (s : ℕ) (r : R)
    → map (labels_in ts) (map f rows) ≡ ss → s < length ss → r ≡ get_or rows s r → slice_get ss s ≡ Some (labels_in ts (f r))
row_series rows f ts ss s r e w g = ap (λ z. slice_get z s) (sym e) ∙ get_map (labels_in ts) (map f rows) s (f r) (row_numbers rows f ts ss s r e w g)

-- the label set of a slot, from its row
pub row_labels : {R : Type 0} (rows : List R) (f : R → List (ℕ × ℕ)) (ts : List Text) (ss : List Labels) (i s : ℕ) (r : R)
    → map (labels_in ts) (map f rows) ≡ ss → s < length ss → i ≡ s → r ≡ get_or rows i r → slice_index_or ss s [] ≡ labels_in ts (f r)
row_labels rows f ts ss i s r e w j g = get_index ss s (labels_in ts (f r)) (row_series rows f ts ss s r e w (g ∙ ap (λ n. get_or rows n r) j)) where
  get_index : (xs : List Labels) (n : ℕ) (x : Labels) → slice_get xs n ≡ Some x → slice_index_or xs n [] ≡ x
  get_index [] n x h = cc
  get_index (y ∷ ys) zero x h = cc
  get_index (y ∷ ys) (suc n) x h = get_index ys n x h

-- what a number of a row names
pub row_number : {R : Type 0} (rows : List R) (f : R → List (ℕ × ℕ)) (ts : List Text) (ss : List Labels) (i s k : ℕ) (r : R) (n : ℕ × ℕ)
    → map (labels_in ts) (map f rows) ≡ ss → AreAllWithin (length ts) (map f rows) → s < length ss → i ≡ s → r ≡ get_or rows i r → k < length (slice_index_or ss s []) → n ≡ get_or (f r) k n
    → (k < length (f r)) × (n.0 < length ts) × (n.1 < length ts) × (slice_get (slice_index_or ss s []) k ≡ Some (named ts n))
row_number rows f ts ss i s k r n e a w j g few h =
    let labels : slice_index_or ss s [] ≡ labels_in ts (f r) = row_labels rows f ts ss i s r e w j g in
    let many : length (slice_index_or ss s []) ≡ length (f r) = ap length labels ∙ (simp length-map) in
    let short : k < length (f r) = omega (arith, few, many) in
    let read : slice_get (f r) k ≡ Some n = slice_get_read (f r) (length (f r)) k n refl short h in
    let row = row_numbers rows f ts ss s r e w (g ∙ ap (λ m. get_or rows m r) j) in
    let both = within_at (length ts) (f r) k n (all_within_at (length ts) (map f rows) s (f r) a row) read in
    (short, both.0, both.1, ap (λ ls. slice_get ls k) labels ∙ get_map (named ts) (f r) k n read)

-- the numbers of a row have texts
pub row_within : {R : Type 0} (rows : List R) (f : R → List (ℕ × ℕ)) (ts : List Text) (ss : List Labels) (i s : ℕ) (r : R)
    → map (labels_in ts) (map f rows) ≡ ss → AreAllWithin (length ts) (map f rows) → s < length ss → i ≡ s → r ≡ get_or rows i r → AreWithin (length ts) (f r)
row_within rows f ts ss i s r e a w j g = all_within_at (length ts) (map f rows) s (f r) a (row_numbers rows f ts ss s r e w (g ∙ ap (λ m. get_or rows m r) j))
