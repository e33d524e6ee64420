-- One series more, and one reference more.
use Rattle.std.proofs.Common.{◌≡◌, ℕ, zero, suc, ◌+◌, ◌<◌, ◌≤◌, ◌⊎◌, inl, inr, Bool, true, false, List, [], ◌∷◌, ◌++◌, Some, ap, sym, subst, ◌∙◌, refl, arith, length, length-append, eqb-true, eq-eqb}
use Rattle.std.specs.Prelude.{◌==◌, nat_eq, map, slice_get, slice_index, if◌then◌else◌}
use Rattle.std.specs.Map.{lookup}
use Rattle.std.proofs.lemmas.List.{map-append, length-map}
use Rattle.std.specs.List.{All}
use Rattle.std.proofs.lemmas.List.Elements.{All-push}
use Rattle.wal_record.specs.Labels.{same_labels, IsLabelSet}
use Rattle.wal_record.proofs.Equality.{labels_same}
use Rattle.head_series.specs.Texts.{Text, TextTable, with_texts}
use Rattle.hash_seed.specs.declared.seed.HashSeed.{HashSeed}
use Rattle.head_series.specs.Rows.{labels_in, labels_hash, AreWithin, AreAllWithin, AreDistinct, IsLast, IsChained, or_zero}
use Rattle.head_series.specs.Table.{Labels, has_series}
use Rattle.head_series.proofs.Distinct.{distinct_push}
use Rattle.head_series.specs.Sound.{IsSound}
use Rattle.head_series.proofs.TextLemmas.{with_texts_more, labels_in_front, AreWithin_more}

get_front : {A : Type 0} (xs ys : List A) (s : ℕ) → s < length xs → slice_get (xs ++ ys) s ≡ slice_get xs s
get_front [] ys s h = absurd (omega arith)
get_front (x ∷ xs) ys zero h = refl
get_front (x ∷ xs) ys (suc s) h = get_front xs ys s (omega arith)

get_end : {A : Type 0} (xs : List A) (y : A) (s : ℕ) → s ≡ length xs → slice_get (xs ++ y ∷ []) s ≡ Some y
get_end {A = A} xs y s e = subst (λ k. slice_get (xs ++ y ∷ []) k ≡ Some y) (sym e) (by xs) where
  by : (zs : List A) → slice_get (zs ++ y ∷ []) (length zs) ≡ Some y
  by [] = refl
  by (z ∷ zs) = by zs

index_front : (xs ys : List ℕ) (s : ℕ) → s < length xs → slice_index (xs ++ ys) s ≡ slice_index xs s
index_front [] ys s h = absurd (omega arith)
index_front (x ∷ xs) ys zero h = refl
index_front (x ∷ xs) ys (suc s) h = index_front xs ys s (omega arith)

index_end : (xs : List ℕ) (y s : ℕ) → s ≡ length xs → slice_index (xs ++ y ∷ []) s ≡ y
index_end xs y s e = subst (λ k. slice_index (xs ++ y ∷ []) k ≡ y) (sym e) (by xs) where
  by : (zs : List ℕ) → slice_index (zs ++ y ∷ []) (length zs) ≡ y
  by [] = refl
  by (z ∷ zs) = by zs

get_within : {A : Type 0} (xs : List A) (i : ℕ) (x : A) → slice_get xs i ≡ Some x → i < length xs
get_within [] i x h = cc
get_within (y ∷ ys) zero x h = omega arith
get_within (y ∷ ys) (suc i) x h = let k = get_within ys i x h in omega (arith, k)

length-push : {A : Type 0} (xs : List A) (x : A) → length (xs ++ x ∷ []) ≡ length xs + 1
length-push [] x = refl
length-push (y ∷ ys) x = let k = length-push ys x in omega (arith, k)

split : (j b : ℕ) → (j < b) ⊎ (b ≤ j)
split j zero = inr (omega arith)
split zero (suc b) = inl (omega arith)
split (suc j) (suc b) = at (split j b) where
  at : (j < b) ⊎ (b ≤ j) → (suc j < suc b) ⊎ (suc b ≤ suc j)
  at (inl h) = inl (omega arith)
  at (inr h) = inr (omega arith)

-- the series that were there
pub series_front : (ts more : List Text) (nss : List (List (ℕ × ℕ))) → AreAllWithin (length ts) nss → map (labels_in (ts ++ more)) nss ≡ map (labels_in ts) nss
series_front ts more [] h = refl
series_front ts more (ns ∷ nss) (a, b) = ap (λ z. z ∷ map (labels_in (ts ++ more)) nss) (labels_in_front ts more ns a) ∙ ap (λ z. labels_in ts ns ∷ z) (series_front ts more nss b)

all_within_push : (m n : ℕ) (nss : List (List (ℕ × ℕ))) (ns : List (ℕ × ℕ)) → m ≤ n → AreAllWithin m nss → AreWithin n ns → AreAllWithin n (nss ++ ns ∷ [])
all_within_push m n [] ns l h a = (a, tt)
all_within_push m n (x ∷ nss) ns l (b, d) a = (AreWithin_more m n x l b, all_within_push m n nss ns l d a)

last_front : (xs : List ℕ) (x b h n : ℕ) → b ≤ length xs → IsLast xs b h n → IsLast (xs ++ x ∷ []) b h n
last_front xs x b h n w i = record {
  within = i.within;
  has = λ s e. get_front xs (x ∷ []) s (let k = i.within in omega (arith, k, e, w)) ∙ i.has s e;
  none = λ s g f m. i.none s g f (sym (get_front xs (x ∷ []) s (omega (arith, f, w))) ∙ m);
}

chained_push : (xs : List ℕ) (last now : ℕ → ℕ) (befores : List ℕ) (x q : ℕ) → IsChained xs last befores → length befores ≡ length xs → q ≡ last x
    → ((h : ℕ) → now h ≡ (if x == h then length xs + 1 else last h)) → IsChained (xs ++ x ∷ []) now (befores ++ q ∷ [])
chained_push xs last now befores x q c many e g = record {
  ends = λ h. subst (λ k. IsLast (xs ++ x ∷ []) (length (xs ++ x ∷ [])) h k) (sym (g h)) (end h (x == h) refl);
  before = λ s h m. before s h m (split s (length xs));
} where
  long : length (xs ++ x ∷ []) ≡ length xs + 1
  long = length-push xs x

  end : (h : ℕ) (b : Bool) → (x == h) ≡ b → IsLast (xs ++ x ∷ []) (length (xs ++ x ∷ [])) h (if b then length xs + 1 else last h)
  end h true f = record {
    within = omega (arith, long);
    has = λ s k. get_end xs x s (omega (arith, k)) ∙ ap Some (eqb-true x h f);
    none = λ s a b m. absurd (omega (arith, a, b, long));
  }
  end h false f = record {
    within = (let k = (c.ends h).within in omega (arith, k, long));
    has = (last_front xs x (length xs) h (last h) (omega arith) (c.ends h)).has;
    none = λ s a b m. none s a b m (split s (length xs));
  } where
    none : (s : ℕ) → last h ≤ s → s < length (xs ++ x ∷ []) → slice_get (xs ++ x ∷ []) s ≡ Some h → (s < length xs) ⊎ (length xs ≤ s) → ⊥
    none s a b m (inl u) = (c.ends h).none s a u (sym (get_front xs (x ∷ []) s u) ∙ m)
    none s a b m (inr u) =
        let k : Some x ≡ Some h = sym (get_end xs x s (omega (arith, b, u, long))) ∙ m in
        let j : x ≡ h = cc in let t : (x == h) ≡ true = eq-eqb x h j in absurd (cc)

  before : (s h : ℕ) → slice_get (xs ++ x ∷ []) s ≡ Some h → (s < length xs) ⊎ (length xs ≤ s) → IsLast (xs ++ x ∷ []) s h (slice_index (befores ++ q ∷ []) s)
  before s h m (inl u) = subst (λ k. IsLast (xs ++ x ∷ []) s h k) (sym (index_front befores (q ∷ []) s (omega (arith, u, many))))
      (last_front xs x s h (slice_index befores s) (omega (arith, u)) (c.before s h (sym (get_front xs (x ∷ []) s u) ∙ m)))
  before s h m (inr u) =
      let w = get_within (xs ++ x ∷ []) s h m in
      let at : s ≡ length xs = omega (arith, w, u, long) in
      let k : Some x ≡ Some h = sym (get_end xs x s at) ∙ m in
      let j : x ≡ h = cc in
      let to : slice_index (befores ++ q ∷ []) s ≡ last h = index_end befores q s (omega (arith, at, many)) ∙ e ∙ ap last j in
      subst (λ n. IsLast (xs ++ x ∷ []) s h n) (sym to) (last_front xs x s h (last h) (omega (arith, at)) (subst (λ n. IsLast xs n h (last h)) (sym at) (c.ends h)))

pub IsSound-push : (seed : HashSeed) (old new : TextTable) (us : List Text) (most : ℕ) (nss : List (List (ℕ × ℕ))) (befores : List ℕ) (last_by_hash more : List (ℕ × ℕ)) (many : ℕ) (ns : List (ℕ × ℕ)) (l : Labels) (q : ℕ)
    → IsSound seed old most nss befores last_by_hash many → new.texts ≡ with_texts old.texts us → new.most ≡ old.most → AreWithin (length new.texts) ns → labels_in new.texts ns ≡ l
    → length nss < most → IsLabelSet l → has_series (map (labels_in old.texts) nss) l ≡ false → q ≡ or_zero (lookup (nat_eq (labels_hash seed l)) last_by_hash)
    → ((h : ℕ) → or_zero (lookup (nat_eq h) more) ≡ (if labels_hash seed l == h then length nss + 1 else or_zero (lookup (nat_eq h) last_by_hash)))
    → (map (labels_in new.texts) (nss ++ ns ∷ []) ≡ map (labels_in old.texts) nss ++ l ∷ []) × IsSound seed new most (nss ++ ns ∷ []) (befores ++ q ∷ []) more (many + 1)
IsSound-push seed old new us most nss befores last_by_hash more many ns l q s t m a n few order absent e g = at (with_texts_more us old.texts) where
  long : length (nss ++ ns ∷ []) ≡ length nss + 1
  long = length-push nss ns

  at : (rest : List Text) × (with_texts old.texts us ≡ old.texts ++ rest)
      → (map (labels_in new.texts) (nss ++ ns ∷ []) ≡ map (labels_in old.texts) nss ++ l ∷ []) × IsSound seed new most (nss ++ ns ∷ []) (befores ++ q ∷ []) more (many + 1)
  at (rest, f) =
      let grown : new.texts ≡ old.texts ++ rest = t ∙ f in
      let longer : length old.texts ≤ length new.texts = (let k = simp length-append at (ap length grown) in omega (arith, k)) in
      let front : map (labels_in new.texts) nss ≡ map (labels_in old.texts) nss = ap (λ z. map (labels_in z) nss) grown ∙ series_front old.texts rest nss s.within in
      let all : map (labels_in new.texts) (nss ++ ns ∷ []) ≡ map (labels_in old.texts) nss ++ l ∷ [] =
      map-append (labels_in new.texts) nss (ns ∷ []) ∙ ap (λ z. z ++ labels_in new.texts ns ∷ []) front ∙ ap (λ z. map (labels_in old.texts) nss ++ z ∷ []) n in
      let numbers : map (labels_hash seed) (map (labels_in new.texts) (nss ++ ns ∷ [])) ≡ map (labels_hash seed) (map (labels_in old.texts) nss) ++ labels_hash seed l ∷ [] =
      ap (map (labels_hash seed)) all ∙ map-append (labels_hash seed) (map (labels_in old.texts) nss) (l ∷ []) in
      let hashed : length (map (labels_hash seed) (map (labels_in old.texts) nss)) ≡ length nss = (simp length-map) in (
        all,
        record {
          few = omega (arith, few, long);
          limit = m ∙ s.limit;
          within = all_within_push (length old.texts) (length new.texts) nss ns longer s.within a;
          distinct = subst (AreDistinct same_labels) (sym all) (distinct_push same_labels labels_same (map (labels_in old.texts) nss) l s.distinct absent);
          ordered = subst (All IsLabelSet) (sym all) (All-push IsLabelSet (map (labels_in old.texts) nss) l s.ordered order);
          befored = length-push befores q ∙ (let k = s.befored in let j : length befores + 1 ≡ length (nss ++ ns ∷ []) = omega (arith, k, long) in j);
          counted = (let k = s.counted in omega (arith, k, long));
          chained = subst (λ z. IsChained z (λ h. or_zero (lookup (nat_eq h) more)) (befores ++ q ∷ [])) (sym numbers)
              (chained_push (map (labels_hash seed) (map (labels_in old.texts) nss)) (λ h. or_zero (lookup (nat_eq h) last_by_hash)) (λ h. or_zero (lookup (nat_eq h) more)) befores (labels_hash seed l) q s.chained
              (s.befored ∙ sym hashed) e (λ h. g h ∙ ap (λ z. if labels_hash seed l == h then z + 1 else or_zero (lookup (nat_eq h) last_by_hash)) (sym hashed)));
        },
      )
