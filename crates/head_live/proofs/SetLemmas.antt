-- Label sets: their equality, their places in a list, and lists without repeats, with one element more.
use Rattle.std.proofs.Common.{◌≡◌, ℕ, zero, suc, ◌+◌, ◌<◌, Bool, true, false, List, [], ◌∷◌, ◌++◌, Option, Some, None, ap, sym, subst, ◌∙◌, refl, arith, append_assoc, length}
use Rattle.std.specs.Prelude.{◌||◌, ◌&&◌, filter, slice_get, if◌then◌else◌}
use Rattle.std.specs.Bool.{Decides}
use Rattle.std.specs.List.{list_any}
use Rattle.std.specs.Option.{option_map}
use Rattle.std.proofs.lemmas.List.{append-nil}
use Rattle.std.proofs.lemmas.List.Folds.{list_any-append}
use Rattle.std.proofs.lemmas.Option.{slice_get_within}
use Rattle.std.proofs.lemmas.Slice.Eq.{bytes_eq-Decides, slice_eq-Decides}
use Rattle.hw_bytes.specs.Lists.{along, distinct, if_new}
use Rattle.wal_record.specs.declared.labels.Label.{Label}
use Rattle.wal_record.specs.Labels.{Labels, label_equiv, labels_equiv, same_label, same_labels, same_text}
use Rattle.head_series.specs.Rows.{AreDistinct}
use Rattle.head_series.specs.Texts.{place}

-- ---- lists

-- one element more
pub along-push : {A B : Type 0} (f : List A → A → List B) (xs : List A) (x : A) → along f (xs ++ x ∷ []) ≡ along f xs ++ f xs x
along-push f [] x = append-nil (f [] x)
along-push f (y ∷ ys) x =
    ap (λ t. f [] y ++ t) (along-push (λ before. f (y ∷ before)) ys x)
    ∙ sym (append_assoc (f [] y) (along (λ before. f (y ∷ before)) ys) (f (y ∷ ys) x))

pub along-append : {A B : Type 0} (f : List A → A → List B) (xs ys : List A) → along f (xs ++ ys) ≡ along f xs ++ along (λ before. f (xs ++ before)) ys
along-append f [] ys = refl
along-append f (x ∷ xs) ys =
    ap (λ t. f [] x ++ t) (along-append (λ before. f (x ∷ before)) xs ys)
    ∙ sym (append_assoc (f [] x) (along (λ before. f (x ∷ before)) xs) (along (λ before. f (x ∷ (xs ++ before))) ys))

-- what holds of no elements, and of one more wherever it holds, holds of every list
by_push : {A : Type 0} (P : List A → Type 0) → P [] → ((xs : List A) (x : A) → P xs → P (xs ++ x ∷ [])) → (xs : List A) → P xs
by_push {A} P base step xs = go [] base xs where
  go : (ys : List A) → P ys → (xs : List A) → P (ys ++ xs)
  go ys p [] = subst P (sym (append-nil ys)) p
  go ys p (x ∷ xs) = subst P (append_assoc ys (x ∷ []) xs) (go (ys ++ x ∷ []) (step ys x p) xs)

or_false : (a : Bool) → (a || false) ≡ a
or_false true = refl
or_false false = refl

pub neither : (a b : Bool) → (a || b) ≡ false → (a ≡ false) × (b ≡ false)
neither true b h = absurd (cc)
neither false b h = (refl, h)

-- ---- equal label sets

label_exact : (l m : Label) → same_label l m ≡ true → l ≡ m
label_exact l m h =
    let both = parts (same_text l.name m.name) (same_text l.value m.value) h in
    whole ((bytes_eq-Decides l.name m.name).0 both.0) ((bytes_eq-Decides l.value m.value).0 both.1) where
      parts : (a b : Bool) → (a && b) ≡ true → (a ≡ true) × (b ≡ true)
      parts true b k = (refl, k)
      parts false b k = absurd cc

      whole : l.name ≡ m.name → l.value ≡ m.value → l ≡ m
      whole p q = ap (λ (a : List ℕ). record { name = a; value = l.value }) p ∙ ap (λ (a : List ℕ). record { name = m.name; value = a }) q

label_decides : (l m : Label) → Decides (same_label l m) (l ≡ m)
label_decides l m = (label_exact l m, λ e. ap (same_label l) (sym e) ∙ label_equiv.refl l)

pub same_exact : (l m : Labels) → same_labels l m ≡ true → l ≡ m
same_exact l m h = (slice_eq-Decides label_decides l m (same_labels l m) refl).0 h

pub same_self : (l : Labels) → same_labels l l ≡ true
same_self l = labels_equiv.refl l

-- ---- places

-- the first place of a label set in a list where it is
pub at_place : (l : Labels) (xs : List Labels) (i : ℕ) → place (same_labels l) xs ≡ Some i → slice_get xs i ≡ Some l
at_place l [] i h = cc
at_place l (y ∷ ys) i h = at (same_labels l y) (place (same_labels l) ys) refl refl (λ n e. at_place l ys n e) h where
  at : (b : Bool) (o : Option ℕ) → same_labels l y ≡ b → place (same_labels l) ys ≡ o → ((n : ℕ) → place (same_labels l) ys ≡ Some n → slice_get ys n ≡ Some l)
      → (if b then Some 0 else option_map (λ n. n + 1) o) ≡ Some i → slice_get (y ∷ ys) i ≡ Some l
  at true o e f deep k = rw (let m : i ≡ 0 = cc in m) (ap Some (sym (same_exact l y e)))
  at false None e f deep k = cc
  at false (Some n) e f deep k = rw (let m : i ≡ suc n = (let q : n + 1 ≡ i = cc in omega (arith, q)) in m) (deep n f)

pub place_within : (l : Labels) (xs : List Labels) (i : ℕ) → place (same_labels l) xs ≡ Some i → i < length xs
place_within l xs i h = (let e = at_place l xs i h in slice_get_within xs i l e)

-- two label sets of one place
pub one_at : (l m : Labels) (xs : List Labels) (i : ℕ) → place (same_labels l) xs ≡ Some i → place (same_labels m) xs ≡ Some i → l ≡ m
one_at l m xs i h k = (let e = at_place l xs i h in let f = at_place m xs i k in let g : Some l ≡ Some m = sym e ∙ f in cc)

pub no_place : (l : Labels) (xs : List Labels) → place (same_labels l) xs ≡ None → list_any (same_labels l) xs ≡ false
no_place l [] h = refl
no_place l (y ∷ ys) h = at (same_labels l y) (place (same_labels l) ys) refl refl (no_place l ys) h where
  at : (b : Bool) (o : Option ℕ) → same_labels l y ≡ b → place (same_labels l) ys ≡ o → (place (same_labels l) ys ≡ None → list_any (same_labels l) ys ≡ false)
      → (if b then Some 0 else option_map (λ n. n + 1) o) ≡ None → (b || list_any (same_labels l) ys) ≡ false
  at true o e f deep k = cc
  at false None e f deep k = deep f
  at false (Some n) e f deep k = cc

pub has_place : (l : Labels) (xs : List Labels) (i : ℕ) → place (same_labels l) xs ≡ Some i → list_any (same_labels l) xs ≡ true
has_place l [] i h = cc
has_place l (y ∷ ys) i h = at (same_labels l y) (place (same_labels l) ys) refl (λ n e. has_place l ys n e) refl h where
  at : (b : Bool) (o : Option ℕ) → place (same_labels l) ys ≡ o → ((n : ℕ) → place (same_labels l) ys ≡ Some n → list_any (same_labels l) ys ≡ true)
      → b ≡ same_labels l y → (if b then Some 0 else option_map (λ n. n + 1) o) ≡ Some i → (b || list_any (same_labels l) ys) ≡ true
  at true o f deep e k = refl
  at false None f deep e k = cc
  at false (Some n) f deep e k = deep n f

-- the place of a label set that was there stays
pub place_kept : (l m : Labels) (xs : List Labels) (i : ℕ) → place (same_labels l) xs ≡ Some i → place (same_labels l) (xs ++ m ∷ []) ≡ Some i
place_kept l m [] i h = cc
place_kept l m (y ∷ ys) i h = at (same_labels l y) (place (same_labels l) ys) refl (λ n e. place_kept l m ys n e) h where
  at : (b : Bool) (o : Option ℕ) → place (same_labels l) ys ≡ o → ((n : ℕ) → place (same_labels l) ys ≡ Some n → place (same_labels l) (ys ++ m ∷ []) ≡ Some n)
      → (if b then Some 0 else option_map (λ n. n + 1) o) ≡ Some i → (if b then Some 0 else option_map (λ n. n + 1) (place (same_labels l) (ys ++ m ∷ []))) ≡ Some i
  at true o f deep k = k
  at false None f deep k = cc
  at false (Some n) f deep k = ap (option_map (λ n. n + 1)) (deep n f) ∙ k

-- another label set at the end changes no place
pub place_other : (l m : Labels) (xs : List Labels) → same_labels l m ≡ false → place (same_labels l) (xs ++ m ∷ []) ≡ place (same_labels l) xs
place_other l m [] h = ap (λ b. if b then Some 0 else None) h
place_other l m (y ∷ ys) h = ap (λ o. if same_labels l y then Some 0 else option_map (λ n. n + 1) o) (place_other l m ys h)

-- a label set that was not there is at the end
pub place_last : (l : Labels) (xs : List Labels) → place (same_labels l) xs ≡ None → place (same_labels l) (xs ++ l ∷ []) ≡ Some (length xs)
place_last l [] h = ap (λ b. if b then Some 0 else None) (same_self l)
place_last l (y ∷ ys) h = at (same_labels l y) (place (same_labels l) ys) refl (place_last l ys) h where
  at : (b : Bool) (o : Option ℕ) → place (same_labels l) ys ≡ o → (place (same_labels l) ys ≡ None → place (same_labels l) (ys ++ l ∷ []) ≡ Some (length ys))
      → (if b then Some 0 else option_map (λ n. n + 1) o) ≡ None → (if b then Some 0 else option_map (λ n. n + 1) (place (same_labels l) (ys ++ l ∷ []))) ≡ Some (suc (length ys))
  at true o f deep k = cc
  at false None f deep k = ap (option_map (λ n. n + 1)) (deep f) ∙ ap Some (let g : length ys + 1 ≡ suc (length ys) = omega arith in g)
  at false (Some n) f deep k = cc

among_at : (l : Labels) (xs : List Labels) (i : ℕ) → slice_get xs i ≡ Some l → list_any (same_labels l) xs ≡ true
among_at l [] i h = cc
among_at l (s ∷ xs) zero h = let k : s ≡ l = cc in ap (λ b. b || list_any (same_labels l) xs) (ap (same_labels l) k ∙ same_self l)
among_at l (s ∷ xs) (suc i) h = at (same_labels l s) (among_at l xs i h) where
  at : (b : Bool) → list_any (same_labels l) xs ≡ true → (b || list_any (same_labels l) xs) ≡ true
  at true e = refl
  at false e = e

-- where no two are equal, each is at its place
pub place_at : (l : Labels) (xs : List Labels) (i : ℕ) → AreDistinct same_labels xs → slice_get xs i ≡ Some l → place (same_labels l) xs ≡ Some i
place_at l [] i d h = cc
place_at l (s ∷ xs) zero d h = let k : s ≡ l = cc in ap (λ b. if b then Some 0 else option_map (λ n. n + 1) (place (same_labels l) xs)) (ap (same_labels l) k ∙ same_self l)
place_at l (s ∷ xs) (suc i) d h = at (same_labels l s) refl (place_at l xs i d.1 h) where
  at : (b : Bool) → same_labels l s ≡ b → place (same_labels l) xs ≡ Some i → (if b then Some 0 else option_map (λ n. n + 1) (place (same_labels l) xs)) ≡ Some (suc i)
  at true e p =
      let k : l ≡ s = same_exact l s e in
      let m : list_any (same_labels s) xs ≡ true = ap (λ z. list_any (same_labels z) xs) (sym k) ∙ among_at l xs i h in
      let n : true ≡ false = sym m ∙ d.0 in absurd (cc)
  at false e p = ap (option_map (λ n. n + 1)) p ∙ ap Some (let g : i + 1 ≡ suc i = omega arith in g)

-- what has no place is nowhere
pub nowhere : (l : Labels) (xs : List Labels) (i : ℕ) → place (same_labels l) xs ≡ None → slice_get xs i ≡ Some l → ⊥
nowhere l xs i h k = (let a = no_place l xs h in let b = among_at l xs i k in let c : true ≡ false = sym b ∙ a in cc)

-- ---- without repeats

-- what is in a list is in it without its repeats
pub any_distinct : (l : Labels) (xs : List Labels) → list_any (same_labels l) (distinct same_labels xs) ≡ list_any (same_labels l) xs
any_distinct l xs = by_push (λ ys. list_any (same_labels l) (distinct same_labels ys) ≡ list_any (same_labels l) ys) refl step xs where
  absorbs : (a b : Bool) → (b ≡ true → a ≡ true) → a ≡ (a || b)
  absorbs true b f = refl
  absorbs false true f = f refl
  absorbs false false f = refl

  found : (ys : List Labels) (y : Labels) → list_any (same_labels y) ys ≡ true → same_labels l y ≡ true → list_any (same_labels l) ys ≡ true
  found ys y h e = subst (λ z. list_any (same_labels z) ys ≡ true) (sym (same_exact l y e)) h

  by : (ys : List Labels) (y : Labels) (b : Bool) → list_any (same_labels y) ys ≡ b
      → (list_any (same_labels l) ys || list_any (same_labels l) (if b then [] else y ∷ [])) ≡ (list_any (same_labels l) ys || (same_labels l y || false))
  by ys y true h = or_false (list_any (same_labels l) ys) ∙ absorbs (list_any (same_labels l) ys) (same_labels l y) (found ys y h) ∙ ap (λ b. list_any (same_labels l) ys || b) (sym (or_false (same_labels l y)))
  by ys y false h = refl

  step : (ys : List Labels) (y : Labels) → list_any (same_labels l) (distinct same_labels ys) ≡ list_any (same_labels l) ys → list_any (same_labels l) (distinct same_labels (ys ++ y ∷ [])) ≡ list_any (same_labels l) (ys ++ y ∷ [])
  step ys y e =
      ap (λ zs. list_any (same_labels l) zs) (along-push (if_new same_labels) ys y)
      ∙ list_any-append (same_labels l) (distinct same_labels ys) (if_new same_labels ys y)
      ∙ ap (λ b. b || list_any (same_labels l) (if_new same_labels ys y)) e
      ∙ by ys y (list_any (same_labels y) ys) refl
      ∙ sym (list_any-append (same_labels l) ys (y ∷ []))

-- a filter that keeps a label set keeps that it is there
pub any_filter : (p : Labels → Bool) (l : Labels) (xs : List Labels) → p l ≡ true → list_any (same_labels l) (filter p xs) ≡ list_any (same_labels l) xs
any_filter p l [] h = refl
any_filter p l (y ∷ ys) h = at (p y) (same_labels l y) refl refl (any_filter p l ys h) where
  at : (b s : Bool) → p y ≡ b → same_labels l y ≡ s → list_any (same_labels l) (filter p ys) ≡ list_any (same_labels l) ys
      → list_any (same_labels l) (if b then y ∷ filter p ys else filter p ys) ≡ (same_labels l y || list_any (same_labels l) ys)
  at true s e f k = ap (λ b. same_labels l y || b) k
  at false true e f k = let g : l ≡ y = same_exact l y f in let m : true ≡ false = sym h ∙ (ap p g ∙ e) in cc
  at false false e f k = k ∙ ap (λ b. b || list_any (same_labels l) ys) (sym f)
