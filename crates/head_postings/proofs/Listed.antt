-- Lists beside texts, as a map keeps them: what a write, a new key and a last entry change.
use Rattle.std.proofs.Common.{◌≡◌, ℕ, zero, suc, ◌+◌, Bool, true, false, cond, List, [], ◌∷◌, ◌++◌, Some, None, Option, ap, sym, subst, ◌∙◌, refl, arith, is_some, take}
use Rattle.std.specs.Prelude.{◌||◌, map, if◌then◌else◌, slice_get, Result, Ok, Err, OnErr}
use Rattle.std.specs.Option.{option_map}
use Rattle.std.specs.Map.{lookup, keys_of}
use Rattle.std.specs.List.{list_any, IsDistinct, AllByRecursion}
use Rattle.std.specs.Cmp.Lexicographic.{nat_list_eq_equiv}
use Rattle.indexmap.specs.IndexMap.{set_value_at, insert_entry}
use Rattle.wal_record.specs.Labels.{same_text}
use Rattle.hw_bytes.proofs.Lists.{append_none, map_push}
use Rattle.hw_bytes.specs.Lists.{place}
use Rattle.wal_record.proofs.SameText.{same_text_exact}
use Rattle.hw_bytes.proofs.Places.{take_more}
use Rattle.head_postings.specs.Postings.{Text, listed}

module _ {A : Type 0} where
  -- an entry that was there, with another list
  rewritten : (b c : Bool) (w v l : List A) → b ≡ c → (if b then w else l) ≡ (if c then w else (if b then v else l))
  rewritten true true w v l e = refl
  rewritten true false w v l e = absurd cc
  rewritten false true w v l e = absurd cc
  rewritten false false w v l e = refl

  -- another entry before it
  passed : (b c : Bool) (v w l m : List A) → (c ≡ true → b ≡ false) → l ≡ (if c then w else m) → (if b then v else l) ≡ (if c then w else (if b then v else m))
  passed true true v w l m f e = let k : true ≡ false = f refl in absurd cc
  passed true false v w l m f e = refl
  passed false c v w l m f e = e

-- what differs from t differs from what is equal to t
apart : (t q u : Text) → same_text t u ≡ false → same_text q t ≡ true → same_text q u ≡ false
apart t q u h k = ap (λ z. same_text z u) (same_text_exact q t k) ∙ h

module _ {K X A : Type 0} (f : K → Text) (g : X → List A) where
  abbrev pub seen : List (K × X) → List (Text × List A)
  seen es = map (λ e. (f e.0, g e.1)) es

  pub listed-found : (t : Text) (es : List (K × X)) (v : X) → lookup (λ k. same_text t (f k)) es ≡ Some v → listed (seen es) t ≡ g v
  listed-found t [] v h = cc
  listed-found t (x ∷ es) v h = at (same_text t (f x.0)) (λ e. listed-found t es v e) h where
    at : (b : Bool) → (lookup (λ k. same_text t (f k)) es ≡ Some v → listed (seen es) t ≡ g v) → cond b (Some x.1) (lookup (λ k. same_text t (f k)) es) ≡ Some v → (if b then g x.1 else listed (seen es) t) ≡ g v
    at true deep e = let k : x.1 ≡ v = cc in ap g k
    at false deep e = deep e

  pub listed-none : (t : Text) (es : List (K × X)) → lookup (λ k. same_text t (f k)) es ≡ None → listed (seen es) t ≡ []
  listed-none t [] h = refl
  listed-none t (x ∷ es) h = at (same_text t (f x.0)) (λ e. listed-none t es e) h where
    at : (b : Bool) → (lookup (λ k. same_text t (f k)) es ≡ None → listed (seen es) t ≡ []) → cond b (Some x.1) (lookup (λ k. same_text t (f k)) es) ≡ None → (if b then g x.1 else listed (seen es) t) ≡ []
    at true deep e = absurd cc
    at false deep e = deep e

  -- a write at the place of t
  pub listed-written : (t : Text) (es : List (K × X)) (i : ℕ) (w : X) (q : Text) → place (same_text t) (map f (keys_of es)) ≡ Some i
      → listed (seen (set_value_at es i w)) q ≡ (if same_text q t then g w else listed (seen es) q)
  listed-written t [] i w q h = cc
  listed-written t (x ∷ es) i w q h = at (same_text t (f x.0)) (place (same_text t) (map f (keys_of es))) refl refl (λ n e. listed-written t es n w q e) h where
    at : (b : Bool) (o : Option ℕ) → same_text t (f x.0) ≡ b → place (same_text t) (map f (keys_of es)) ≡ o
        → ((n : ℕ) → place (same_text t) (map f (keys_of es)) ≡ Some n → listed (seen (set_value_at es n w)) q ≡ (if same_text q t then g w else listed (seen es) q))
        → (if b then Some 0 else option_map (λ n. n + 1) o) ≡ Some i → listed (seen (set_value_at (x ∷ es) i w)) q ≡ (if same_text q t then g w else listed (seen (x ∷ es)) q)
    at true o e s deep k =
        subst (λ j. listed (seen (set_value_at (x ∷ es) j w)) q ≡ (if same_text q t then g w else listed (seen (x ∷ es)) q)) (let m : 0 ≡ i = cc in m)
        (rewritten (same_text q (f x.0)) (same_text q t) (g w) (g x.1) (listed (seen es) q) (ap (same_text q) (sym (same_text_exact t (f x.0) e))))
    at false None e s deep k = cc
    at false (Some n) e s deep k =
        subst (λ j. listed (seen (set_value_at (x ∷ es) j w)) q ≡ (if same_text q t then g w else listed (seen (x ∷ es)) q)) (let m : n + 1 ≡ i = cc in (let j : suc n ≡ n + 1 = omega arith in j ∙ m))
        (passed (same_text q (f x.0)) (same_text q t) (g x.1) (g w) (listed (seen (set_value_at es n w)) q) (listed (seen es) q) (apart t q (f x.0) e) (deep n s))

  -- one more entry, of a new text, at the end
  pub listed-last : (t : Text) (es : List (K × X)) (k : K) (w : X) (q : Text) → f k ≡ t → lookup (λ k. same_text t (f k)) es ≡ None
      → listed (seen (es ++ (k, w) ∷ [])) q ≡ (if same_text q t then g w else listed (seen es) q)
  listed-last t [] k w q e h = ap (λ b. if b then g w else []) (ap (same_text q) e)
  listed-last t (x ∷ es) k w q e h = at (same_text t (f x.0)) refl (λ n. listed-last t es k w q e n) h where
    at : (b : Bool) → same_text t (f x.0) ≡ b → (lookup (λ k. same_text t (f k)) es ≡ None → listed (seen (es ++ (k, w) ∷ [])) q ≡ (if same_text q t then g w else listed (seen es) q))
        → cond b (Some x.1) (lookup (λ k. same_text t (f k)) es) ≡ None → listed (seen (x ∷ (es ++ (k, w) ∷ []))) q ≡ (if same_text q t then g w else listed (seen (x ∷ es)) q)
    at true s deep n = absurd cc
    at false s deep n = passed (same_text q (f x.0)) (same_text q t) (g x.1) (g w) (listed (seen (es ++ (k, w) ∷ [])) q) (listed (seen es) q) (apart t q (f x.0) s) (deep n)

  -- a new key goes last
  pub inserted_last : (t : Text) (es : List (K × X)) (k : K) (w : X) → f k ≡ t → lookup (λ k. same_text t (f k)) es ≡ None → insert_entry (λ a b. same_text (f a) (f b)) es k w ≡ es ++ (k, w) ∷ []
  inserted_last t [] k w e h = refl
  inserted_last t (x ∷ es) k w e h = at (same_text t (f x.0)) refl (λ n. inserted_last t es k w e n) h where
    at : (b : Bool) → same_text t (f x.0) ≡ b → (lookup (λ k. same_text t (f k)) es ≡ None → insert_entry (λ a b. same_text (f a) (f b)) es k w ≡ es ++ (k, w) ∷ [])
        → cond b (Some x.1) (lookup (λ k. same_text t (f k)) es) ≡ None → insert_entry (λ a b. same_text (f a) (f b)) (x ∷ es) k w ≡ x ∷ (es ++ (k, w) ∷ [])
    at true s deep n = absurd cc
    at false s deep n = ap (λ c. if c then (x.0, w) ∷ es else x ∷ insert_entry (λ a b. same_text (f a) (f b)) es k w) (ap (λ u. same_text u (f x.0)) e ∙ s) ∙ ap (λ r. x ∷ r) (deep n)

  pub listed-inserted : (t : Text) (es new : List (K × X)) (k : K) (w : X) (q : Text) → f k ≡ t → lookup (λ k. same_text t (f k)) es ≡ None → new ≡ insert_entry (λ a b. same_text (f a) (f b)) es k w
      → listed (seen new) q ≡ (if same_text q t then g w else listed (seen es) q)
  listed-inserted t es new k w q e h n = ap (λ r. listed (seen r) q) (n ∙ inserted_last t es k w e h) ∙ listed-last t es k w q e h

-- the list of t is changed to w, and no other
abbrev pub IsPut : {A : Type 0} → Text → List A → List (Text × List A) → List (Text × List A) → Type 0
IsPut t w old new = (q : Text) → listed new q ≡ (if same_text q t then w else listed old q)

-- where the list of t is changed, each is what h makes of it
pub changed : {A : Type 0} (h : List A → List A) (t : Text) (o w : List A) (old new : List (Text × List A)) → IsPut t w old new → listed old t ≡ o → w ≡ h o → (q : Text) → listed new q ≡ (if same_text q t then h (listed old q) else listed old q)
changed h t o w old new put was is q = put q ∙ at (same_text q t) refl where
  at : (b : Bool) → same_text q t ≡ b → (if b then w else listed old q) ≡ (if b then h (listed old q) else listed old q)
  at true e = is ∙ ap h (sym was ∙ ap (listed old) (sym (same_text_exact q t e)))
  at false e = refl

-- where the lists under t are changed, each is as R says, and each other as it was
pub changed_under : {A : Type 0} (R : Bool → Text → List A → List A → Type 0) (t : Text) (o w : List (Text × List A)) (old new : List (Text × List (Text × List A))) → IsPut t w old new → listed old t ≡ o
    → ((v : Text) → R true v (listed o v) (listed w v)) → ((n v : Text) → R false v (listed (listed old n) v) (listed (listed old n) v))
    → (n v : Text) → R (same_text n t) v (listed (listed old n) v) (listed (listed new n) v)
changed_under R t o w old new put was inside outside n v = subst (λ z. R (same_text n t) v (listed (listed old n) v) (listed z v)) (sym (put n)) (at (same_text n t) refl) where
  at : (b : Bool) → same_text n t ≡ b → R b v (listed (listed old n) v) (listed (if b then w else listed old n) v)
  at true e = subst (λ z. R true v (listed z v) (listed w v)) (sym was ∙ ap (listed old) (sym (same_text_exact n t e))) (inside v)
  at false e = outside n v

pub none_found : {A : Type 0} (o : Option A) → false ≡ is_some o → o ≡ None
none_found None h = refl
none_found (Some x) h = cc

pub append_if : {A : Type 0} (b : Bool) (xs ys : List A) → (if b then xs ++ ys else xs) ≡ xs ++ (if b then ys else [])
append_if true xs ys = refl
append_if false xs ys = sym (append_none xs)

pub same_if : {A : Type 0} (b : Bool) (x : A) → (if b then x else x) ≡ x
same_if true x = refl
same_if false x = refl

-- where t has nothing, and h makes nothing of nothing, all stay
pub kept_none : {A : Type 0} (h : List A → List A) (t : Text) (old : List (Text × List A)) → listed old t ≡ [] → h [] ≡ [] → (q : Text) → listed old q ≡ (if same_text q t then h (listed old q) else listed old q)
kept_none h t old was e q = at (same_text q t) refl where
  at : (b : Bool) → same_text q t ≡ b → listed old q ≡ (if b then h (listed old q) else listed old q)
  at true s = let k : listed old q ≡ [] = ap (listed old) (same_text_exact q t s) ∙ was in k ∙ sym e ∙ ap h (sym k)
  at false s = refl

pub on_err_always : {T E P : Type 0} (r : Result T E) → P → OnErr r P
on_err_always (Ok x) p = tt
on_err_always (Err e) p = p

-- no entry has the text t
abbrev pub has : {A : Type 0} → Text → List (Text × List A) → Bool
has t entries = list_any (λ e. same_text t e.0) entries

all_at : {K X : Type 0} (P : K → Type 0) (es : List (K × X)) (i : ℕ) (k : K) (o : X) → AllByRecursion P (keys_of es) → slice_get es i ≡ Some (k, o) → P k
all_at P [] i k o a h = cc
all_at P (x ∷ es) zero k o a h = let e : x ≡ (k, o) = cc in subst P (ap (λ z. z.0) e) a.0
all_at P (x ∷ es) (suc i) k o a h = all_at P es i k o a.1 h

module _ {K X A : Type 0} (f : K → Text) (g : X → List A) where
  absent_yes : (t : Text) (es : List (K × X)) → has t (seen f g es) ≡ false → lookup (λ k. same_text t (f k)) es ≡ None
  absent_yes t [] h = refl
  absent_yes t (x ∷ es) h = at (same_text t (f x.0)) (λ e. absent_yes t es e) h where
    at : (b : Bool) → (has t (seen f g es) ≡ false → lookup (λ k. same_text t (f k)) es ≡ None) → (b || has t (seen f g es)) ≡ false → cond b (Some x.1) (lookup (λ k. same_text t (f k)) es) ≡ None
    at true deep e = absurd cc
    at false deep e = deep e

  -- a key is not before its place
  absent_before : (es : List (K × X)) (i : ℕ) (k : K) (o : X) → IsDistinct (λ a b. same_text (f a) (f b)) (keys_of es) → slice_get es i ≡ Some (k, o) → has (f k) (take i (seen f g es)) ≡ false
  unfolding IsDistinct
  absent_before [] i k o d h = cc
  absent_before (x ∷ es) zero k o d h = refl
  absent_before (x ∷ es) (suc i) k o d h =
      ap (λ b. b || has (f k) (take i (seen f g es))) (nat_list_eq_equiv.symm (f k) (f x.0) ∙ all_at (λ b. same_text (f x.0) (f b) ≡ false) es i k o d.0 h) ∙ absent_before es i k o d.1 h

  seen_at : (es : List (K × X)) (i : ℕ) (k : K) (o : X) → slice_get es i ≡ Some (k, o) → slice_get (seen f g es) i ≡ Some (f k, g o)
  seen_at [] i k o h = cc
  seen_at (x ∷ es) zero k o h = let e : x ≡ (k, o) = cc in ap (λ z. Some (f z.0, g z.1)) e
  seen_at (x ∷ es) (suc i) k o h = seen_at es i k o h

  -- one entry more is copied
  pub copied_more : (es cs new : List (K × X)) (i : ℕ) (k l : K) (o p : X) → IsDistinct (λ a b. same_text (f a) (f b)) (keys_of es) → slice_get es i ≡ Some (k, o) → f l ≡ f k → g p ≡ g o → seen f g cs ≡ take i (seen f g es)
      → new ≡ insert_entry (λ a b. same_text (f a) (f b)) cs l p → seen f g new ≡ take (i + 1) (seen f g es)
  copied_more es cs new i k l o p d h e u was n =
      let absent : lookup (λ k. same_text (f l) (f k)) cs ≡ None = absent_yes (f l) cs (ap (has (f l)) was ∙ ap (λ z. has z (take i (seen f g es))) e ∙ absent_before es i k o d h) in
      ap (seen f g) (n ∙ inserted_last f g (f l) cs l p refl absent)
      ∙ map_push (λ e. (f e.0, g e.1)) cs (l, p)
      ∙ ap (λ z. z ++ (f l, g p) ∷ []) was
      ∙ ap (λ z. take i (seen f g es) ++ (z, g p) ∷ []) e
      ∙ ap (λ z. take i (seen f g es) ++ (f k, z) ∷ []) u
      ∙ sym (take_more (seen f g es) i (f k, g o) (seen_at es i k o h))
