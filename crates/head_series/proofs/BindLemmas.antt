-- One binding more.
use Rattle.std.proofs.Common.{◌≡◌, ℕ, suc, ◌<◌, Bool, true, false, List, [], ◌∷◌, ◌++◌, Some, None, Option, ap, sym, subst, ◌∙◌, refl, arith, length, zero}
use Rattle.std.specs.Prelude.{map, slice_get, slice_index_or, if◌then◌else◌, ◌==◌}
use Rattle.std.specs.List.{list_any, flat_map, fold}
use Rattle.std.specs.Option.{option_and_then}
use Rattle.std.proofs.lemmas.List.{append_assoc}
use Rattle.hw_bytes.specs.Lists.{if_new, distinct, or_else, IsSame}
use Rattle.hw_bytes.proofs.Lists.{along-push, append_none, by_push, last_found-push, list_any-distinct, map_push, flat_map-push, fold-push}
use Rattle.wal_record.specs.Labels.{same_text, same_labels}
use Rattle.wal_record.proofs.Equality.{labels_same}
use Rattle.head_series.specs.Bindings.{Binding, bound_by, owner, series_of, IsTableOf}
use Rattle.head_series.specs.Rows.{AreDistinct}
use Rattle.head_series.specs.Table.{Labels, Table, has_series, labels_at, slot_at, texts_with, with_greatest, with_series, IsLeast, IsWith}
use Rattle.head_series.specs.Texts.{Text, place, with_texts, texts_of}
use Rattle.head_series.proofs.Distinct.{distinct_push, get_place, place_at}
use Rattle.head_series.proofs.Places.{place_within, texts_same}

module _ {A : Type 0} (same : A → A → Bool) (law : IsSame same) where
  with_distinct : (xs : List A) (x : A) → (if list_any (same x) (distinct same xs) then distinct same xs else distinct same xs ++ x ∷ []) ≡ distinct same (xs ++ x ∷ [])
  with_distinct xs x =
      ap (λ b. if b then distinct same xs else distinct same xs ++ x ∷ []) (list_any-distinct same law.exact x xs)
      ∙ at (list_any (same x) xs)
      ∙ sym (along-push (if_new same) xs x) where
        at : (b : Bool) → (if b then distinct same xs else distinct same xs ++ x ∷ []) ≡ distinct same xs ++ (if b then [] else x ∷ [])
        at true = sym (append_none (distinct same xs))
        at false = refl

  pub distinct-AreDistinct : (xs : List A) → AreDistinct same (distinct same xs)
  distinct-AreDistinct xs = by_push (λ ys. AreDistinct same (distinct same ys)) tt step xs where
    by : (ys : List A) (y : A) (b : Bool) → list_any (same y) ys ≡ b → AreDistinct same (distinct same ys) → AreDistinct same (distinct same ys ++ (if b then [] else y ∷ []))
    by ys y true h d = subst (AreDistinct same) (sym (append_none (distinct same ys))) d
    by ys y false h d = distinct_push same law (distinct same ys) y d (list_any-distinct same law.exact y ys ∙ h)

    step : (ys : List A) (y : A) → AreDistinct same (distinct same ys) → AreDistinct same (distinct same (ys ++ y ∷ []))
    step ys y d = subst (AreDistinct same) (sym (along-push (if_new same) ys y)) (by ys y (list_any (same y) ys) refl d)

series-push : (bs : List Binding) (b : Binding) → with_series (series_of bs) b.labels ≡ series_of (bs ++ b ∷ [])
series-push bs b =
    with_distinct same_labels labels_same (map (λ (b : Binding). b.labels) bs) b.labels
    ∙ ap (distinct same_labels) (sym (map_push (λ (b : Binding). b.labels) bs b))

pub with_texts-distinct : (us vs : List Text) → with_texts (distinct same_text us) vs ≡ distinct same_text (us ++ vs)
with_texts-distinct us [] = ap (distinct same_text) (sym (append_none us))
with_texts-distinct us (v ∷ vs) =
    ap (λ ts. with_texts ts vs) (with_distinct same_text texts_same us v)
    ∙ with_texts-distinct (us ++ v ∷ []) vs
    ∙ ap (distinct same_text) (append_assoc us (v ∷ []) vs)

get_front : (xs ys : List Labels) (s : ℕ) → s < length xs → slice_get (xs ++ ys) s ≡ slice_get xs s
get_front [] ys s h = absurd (omega arith)
get_front (x ∷ xs) ys zero h = refl
get_front (x ∷ xs) ys (suc s) h = get_front xs ys s (omega arith)

kept_front : (ss : List Labels) (l : Labels) (s : ℕ) → s < length ss → slice_get (with_series ss l) s ≡ slice_get ss s
kept_front ss l s h = at (has_series ss l) where
  at : (b : Bool) → slice_get (if b then ss else ss ++ l ∷ []) s ≡ slice_get ss s
  at true = refl
  at false = get_front ss (l ∷ []) s h

longer : (ss : List Labels) (l : Labels) (s : ℕ) → s < length ss → s < length (with_series ss l)
longer ss l s h = at (has_series ss l) where
  more : (xs : List Labels) → length (xs ++ l ∷ []) ≡ suc (length xs)
  more [] = refl
  more (x ∷ xs) = ap suc (more xs)

  at : (b : Bool) → s < length (if b then ss else ss ++ l ∷ [])
  at true = h
  at false = omega (arith, more ss)

-- One binding more: what `bind` says of the table is what the bindings with it say.
pub IsTableOf-push : (bs : List Binding) (t u : Table) (b : Binding) (s : ℕ) → IsTableOf bs t → u.series ≡ with_series t.series b.labels → place (same_labels b.labels) u.series ≡ Some s
    → IsWith (slot_at t) b.reference s (slot_at u) → u.greatest ≡ with_greatest t.greatest b.reference → u.texts ≡ texts_with t b.labels → IsTableOf (bs ++ b ∷ []) u
IsTableOf-push bs t u b s h e p g m v = record {
  series = e ∙ ap (λ ss. with_series ss b.labels) h.series ∙ series-push bs b;
  owners = λ q. ap (option_and_then (slice_get u.series)) (g q) ∙ owner_at q (b.reference == q) ∙ sym (last_found-push (bound_by q) bs b);
  within = λ q n f. within_at q n (b.reference == q) (sym (g q) ∙ f);
  greatest = m ∙ ap (λ o. with_greatest o b.reference) h.greatest ∙ sym (ap (fold with_greatest None) (map_push (λ (b : Binding). b.reference) bs b) ∙ fold-push with_greatest None (map (λ (b : Binding). b.reference) bs) b.reference);
  texts = v ∙ texts_at (has_series t.series b.labels) refl;
} where
  old : (q : ℕ) (o : Option ℕ) → slot_at t q ≡ o → option_and_then (slice_get u.series) o ≡ option_and_then (slice_get t.series) o
  old q None f = refl
  old q (Some n) f = ap (λ ss. slice_get ss n) e ∙ kept_front t.series b.labels n (h.within q n f)

  owner_at : (q : ℕ) (c : Bool) → option_and_then (slice_get u.series) (if c then Some s else slot_at t q) ≡ or_else (if c then Some b.labels else None) (owner bs q)
  owner_at q true = get_place same_labels labels_same b.labels u.series s p
  owner_at q false = old q (slot_at t q) refl ∙ h.owners q

  within_at : (q n : ℕ) (c : Bool) → (if c then Some s else slot_at t q) ≡ Some n → n < length u.series
  within_at q n true f = subst (λ m. m < length u.series) (let k : s ≡ n = cc in k) (place_within (same_labels b.labels) u.series s p)
  within_at q n false f = subst (λ ss. n < length ss) (sym e) (longer t.series b.labels n (h.within q n f))

  texts_at : (c : Bool) → has_series t.series b.labels ≡ c → (if c then t.texts else with_texts t.texts (texts_of b.labels)) ≡ distinct same_text (flat_map texts_of u.series)
  texts_at true f =
      h.texts ∙ ap (λ ss. distinct same_text (flat_map texts_of ss)) (sym (e ∙ ap (λ c. if c then t.series else t.series ++ b.labels ∷ []) f))
  texts_at false f =
      ap (λ ts. with_texts ts (texts_of b.labels)) h.texts
      ∙ with_texts-distinct (flat_map texts_of t.series) (texts_of b.labels)
      ∙ ap (distinct same_text) (sym (flat_map-push texts_of t.series b.labels))
      ∙ ap (λ ss. distinct same_text (flat_map texts_of ss)) (sym (e ∙ ap (λ c. if c then t.series else t.series ++ b.labels ∷ []) f))

get_within : (xs : List Labels) (i : ℕ) → i < length xs → slice_get xs i ≡ Some (slice_index_or xs i [])
get_within [] i h = absurd (omega arith)
get_within (x ∷ xs) zero h = refl
get_within (x ∷ xs) (suc i) h = get_within xs i (omega arith)

series_distinct : (bs : List Binding) (t : Table) → IsTableOf bs t → AreDistinct same_labels t.series
series_distinct bs t h = subst (AreDistinct same_labels) (sym h.series) (distinct-AreDistinct same_labels labels_same (map (λ (b : Binding). b.labels) bs))

-- a reference has a slot just where its owner is the label set of the slot
owned : (bs : List Binding) (t : Table) (r s : ℕ) → IsTableOf bs t → s < length t.series → slot_at t r ≡ Some s → owner bs r ≡ Some (labels_at t s)
owned bs t r s h w e = sym (h.owners r) ∙ ap (option_and_then (slice_get t.series)) e ∙ get_within t.series s w

owns : (bs : List Binding) (t : Table) (r s : ℕ) → IsTableOf bs t → s < length t.series → owner bs r ≡ Some (labels_at t s) → slot_at t r ≡ Some s
owns bs t r s h w e = at (slot_at t r) refl where
  at : (o : Option ℕ) → slot_at t r ≡ o → o ≡ Some s
  at None f = let k : None ≡ Some (labels_at t s) = sym (ap (option_and_then (slice_get t.series)) f) ∙ h.owners r ∙ e in absurd (cc)
  at (Some n) f =
      let k : slice_get t.series n ≡ Some (labels_at t s) = sym (ap (option_and_then (slice_get t.series)) f) ∙ h.owners r ∙ e in
      place_at same_labels labels_same (labels_at t s) t.series n (series_distinct bs t h) k
      ∙ sym (place_at same_labels labels_same (labels_at t s) t.series s (series_distinct bs t h) (get_within t.series s w))

pub least_owner : (bs : List Binding) (t : Table) (s : ℕ) (least : Option ℕ) → IsTableOf bs t → s < length t.series → IsLeast (λ r. slot_at t r ≡ Some s) least → IsLeast (λ r. owner bs r ≡ Some (labels_at t s)) least
least_owner bs t s None h w l = λ r e. l r (owns bs t r s h w e)
least_owner bs t s (Some q) h w l = (owned bs t q s h w l.0, λ r e. l.1 r (owns bs t r s h w e))

pub slot_place : (bs : List Binding) (t : Table) (r : ℕ) → IsTableOf bs t → slot_at t r ≡ option_and_then (λ ls. place (same_labels ls) t.series) (owner bs r)
slot_place bs t r h = at (slot_at t r) refl where
  at : (o : Option ℕ) → slot_at t r ≡ o → o ≡ option_and_then (λ ls. place (same_labels ls) t.series) (owner bs r)
  at None f = ap (option_and_then (λ ls. place (same_labels ls) t.series)) (sym (ap (option_and_then (slice_get t.series)) f) ∙ h.owners r)
  at (Some n) f =
      let w = h.within r n f in
      place_at same_labels labels_same (labels_at t n) t.series n (series_distinct bs t h) (get_within t.series n w)
      ∙ ap (option_and_then (λ ls. place (same_labels ls) t.series)) (sym (owned bs t r n h w f))

pub table_of_none : (t : Table) → t.series ≡ [] → ((r : ℕ) → slot_at t r ≡ None) → t.greatest ≡ None → t.texts ≡ [] → IsTableOf [] t
table_of_none t none unbound least bare = record {
  series = none;
  owners = λ r. ap (option_and_then (slice_get t.series)) (unbound r);
  within = λ r s h. let e = unbound r in cc;
  greatest = least;
  texts = bare ∙ ap (λ ss. distinct same_text (flat_map texts_of ss)) (sym none);
}
