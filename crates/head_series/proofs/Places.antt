-- The first place of an element.
use Rattle.std.proofs.Common.{◌≡◌, ℕ, suc, ◌+◌, ◌<◌, Bool, true, false, List, [], ◌∷◌, ◌++◌, Some, None, Option, ap, ◌∙◌, refl, arith, length}
use Rattle.std.specs.Prelude.{◌||◌, map, if◌then◌else◌}
use Rattle.std.specs.List.{list_any}
use Rattle.std.specs.Option.{option_map}
use Rattle.std.proofs.lemmas.List.{map-append}
use Rattle.indexmap.specs.IndexSet.{insert_key}
use Rattle.hw_bytes.specs.Lists.{IsSame}
pub use Rattle.hw_bytes.proofs.Places.{position-map, list_any-map}
use Rattle.wal_record.specs.Labels.{same_text}
pub use Rattle.wal_record.proofs.SameText.{same_text_exact, same_text_refl}
use Rattle.head_series.specs.Texts.{place, has_text, with_text}

pub place_some : {A : Type 0} (p : A → Bool) (xs : List A) (s : ℕ) → place p xs ≡ Some s → list_any p xs ≡ true
place_some p [] s h = cc
place_some p (x ∷ xs) s h = at (p x) (place p xs) refl (λ n e. place_some p xs n e) h where
  at : (b : Bool) (o : Option ℕ) → place p xs ≡ o → ((n : ℕ) → place p xs ≡ Some n → list_any p xs ≡ true) → (if b then Some 0 else option_map (λ n. n + 1) o) ≡ Some s → (b || list_any p xs) ≡ true
  at true o e deep k = refl
  at false None e deep k = cc
  at false (Some n) e deep k = deep n e

pub place_none : {A : Type 0} (p : A → Bool) (xs : List A) → place p xs ≡ None → list_any p xs ≡ false
place_none p [] h = refl
place_none p (x ∷ xs) h = at (p x) (place p xs) refl (λ e. place_none p xs e) h where
  at : (b : Bool) (o : Option ℕ) → place p xs ≡ o → (place p xs ≡ None → list_any p xs ≡ false) → (if b then Some 0 else option_map (λ n. n + 1) o) ≡ None → (b || list_any p xs) ≡ false
  at true o e deep k = cc
  at false None e deep k = deep e
  at false (Some n) e deep k = cc

pub place-push : {A : Type 0} (p : A → Bool) (xs : List A) (x : A) → list_any p xs ≡ false → p x ≡ true → place p (xs ++ x ∷ []) ≡ Some (length xs)
place-push p [] x h e = ap (λ b. if b then Some 0 else None) e
place-push p (y ∷ ys) x h e = at (p y) refl h (λ k. place-push p ys x k e) where
  at : (b : Bool) → p y ≡ b → (b || list_any p ys) ≡ false → (list_any p ys ≡ false → place p (ys ++ x ∷ []) ≡ Some (length ys))
      → (if b then Some 0 else option_map (λ n. n + 1) (place p (ys ++ x ∷ []))) ≡ Some (suc (length ys))
  at true e h deep = cc
  at false e h deep = ap (option_map (λ n. n + 1)) (deep h) ∙ ap Some (omega arith)

pub texts_same : IsSame same_text
texts_same = record { reflexive = same_text_refl; exact = same_text_exact }

-- a text that is there changes nothing
pub with_text_old : (ts : List (List ℕ)) (t : List ℕ) → has_text ts t ≡ true → with_text ts t ≡ ts
with_text_old ts t h = ap (λ b. if b then ts else ts ++ t ∷ []) h

pub with_text_new : (ts : List (List ℕ)) (t : List ℕ) → has_text ts t ≡ false → with_text ts t ≡ ts ++ t ∷ []
with_text_new ts t h = ap (λ b. if b then ts else ts ++ t ∷ []) h

-- a key whose view is new goes last
pub map-insert_key : {A B : Type 0} (f : A → B) (same : B → B → Bool) (keys : List A) (k : A) → list_any (same (f k)) (map f keys) ≡ false
    → map f (insert_key (λ a b. same (f a) (f b)) keys k) ≡ map f keys ++ f k ∷ []
map-insert_key f same keys k h =
    ap (λ b. map f (if b then keys else keys ++ k ∷ [])) (list_any-map f (same (f k)) keys ∙ h) ∙ map-append f keys (k ∷ [])

-- texts are kept as vectors: what is seen once a new one was put in
pub interned : {A B : Type 0} (f : A → B) (same : B → B → Bool) (keys new : List A) (k : A) (ts : List B) (t : B)
    → map f keys ≡ ts → f k ≡ t → new ≡ insert_key (λ a b. same (f a) (f b)) keys k → list_any (same t) ts ≡ false → map f new ≡ ts ++ t ∷ []
interned f same keys new k ts t e g h n =
    ap (map f) h
    ∙ map-insert_key f same keys k (ap (λ u. list_any (same u) (map f keys)) g ∙ ap (list_any (same t)) e ∙ n)
    ∙ ap (λ us. us ++ f k ∷ []) e ∙ ap (λ u. ts ++ u ∷ []) g

pub place_within : {A : Type 0} (p : A → Bool) (xs : List A) (s : ℕ) → place p xs ≡ Some s → s < length xs
place_within p [] s h = cc
place_within p (x ∷ xs) s h = at (p x) (place p xs) refl (λ n e. place_within p xs n e) h where
  at : (b : Bool) (o : Option ℕ) → place p xs ≡ o → ((n : ℕ) → place p xs ≡ Some n → n < length xs) → (if b then Some 0 else option_map (λ n. n + 1) o) ≡ Some s → s < suc (length xs)
  at true o e deep k = let m : 0 ≡ s = cc in omega arith
  at false None e deep k = cc
  at false (Some n) e deep k = let m : n + 1 ≡ s = cc in let d : n < length xs = deep n e in omega arith
