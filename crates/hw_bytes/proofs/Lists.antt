-- Lists seen from the end, and lists without repeats.
use Rattle.std.proofs.Common.{◌≡◌, Bool, true, false, List, [], ◌∷◌, ◌++◌, Some, None, Option, ap, sym, subst, ◌∙◌, refl, append_assoc, rules}
use Rattle.std.specs.Prelude.{◌||◌, map, if◌then◌else◌}
use Rattle.std.specs.List.{All, list_any, filter, flat_map, fold, scan}
use Rattle.std.proofs.lemmas.List.Elements.{All-head, All-tail}
use Rattle.std.proofs.lemmas.List.Folds.{list_any-append}
use Rattle.hw_bytes.specs.Lists.{along, or_else, last_found, if_new, distinct}

-- one element more
pub along-push : {A B : Type 0} (f : List A → A → List B) (xs : List A) (x : A) → along f (xs ++ x ∷ []) ≡ along f xs ++ f xs x
along-push f [] x = search rules
along-push f (y ∷ ys) x =
    ap (λ t. f [] y ++ t) (along-push (λ before. f (y ∷ before)) ys x)
    ∙ sym (append_assoc (f [] y) (along (λ before. f (y ∷ before)) ys) (f (y ∷ ys) x))

pub append_none : {A : Type 0} (xs : List A) → xs ++ [] ≡ xs
append_none [] = refl
append_none (x ∷ xs) = ap (λ t. x ∷ t) (append_none xs)

-- what holds of no elements, and of one more wherever it holds, holds of every list
pub by_push : {A : Type 0} (P : List A → Type 0) → P [] → ((xs : List A) (x : A) → P xs → P (xs ++ x ∷ [])) → (xs : List A) → P xs
by_push {A} P base step xs = go [] base xs where
  go : (ys : List A) → P ys → (xs : List A) → P (ys ++ xs)
  go ys p [] = subst P (sym (append_none ys)) p
  go ys p (x ∷ xs) = subst P (append_assoc ys (x ∷ []) xs) (go (ys ++ x ∷ []) (step ys x p) xs)

or_else-None : {A : Type 0} (a : Option A) → or_else a None ≡ a
or_else-None None = refl
or_else-None (Some a) = refl

or_else_assoc : {A : Type 0} (a b c : Option A) → or_else (or_else a b) c ≡ or_else a (or_else b c)
or_else_assoc None b c = refl
or_else_assoc (Some a) b c = refl

pub last_found-push : {A B : Type 0} (f : A → Option B) (xs : List A) (x : A) → last_found f (xs ++ x ∷ []) ≡ or_else (f x) (last_found f xs)
last_found-push f [] x = sym (or_else-None (f x))
last_found-push f (y ∷ ys) x = ap (λ o. or_else o (f y)) (last_found-push f ys x) ∙ or_else_assoc (f x) (last_found f ys) (f y)

or_false : (a : Bool) → (a || false) ≡ a
or_false true = refl
or_false false = refl

module _ {A : Type 0} (same : A → A → Bool) (exact : (a b : A) → same a b ≡ true → a ≡ b) where
  absorbs : (a b : Bool) → (b ≡ true → a ≡ true) → a ≡ (a || b)
  absorbs true b f = refl
  absorbs false true f = f refl
  absorbs false false f = refl

  -- what is in a list is in it without its repeats
  pub list_any-distinct : (x : A) (xs : List A) → list_any (same x) (distinct same xs) ≡ list_any (same x) xs
  list_any-distinct x xs = by_push (λ ys. list_any (same x) (distinct same ys) ≡ list_any (same x) ys) refl step xs where
    found : (ys : List A) (y : A) → list_any (same y) ys ≡ true → same x y ≡ true → list_any (same x) ys ≡ true
    found ys y h e = subst (λ z. list_any (same z) ys ≡ true) (sym (exact x y e)) h

    by : (ys : List A) (y : A) (b : Bool) → list_any (same y) ys ≡ b → (list_any (same x) ys || list_any (same x) (if b then [] else y ∷ [])) ≡ (list_any (same x) ys || (same x y || false))
    by ys y true h = or_false (list_any (same x) ys) ∙ absorbs (list_any (same x) ys) (same x y) (found ys y h) ∙ ap (λ b. list_any (same x) ys || b) (sym (or_false (same x y)))
    by ys y false h = refl

    step : (ys : List A) (y : A) → list_any (same x) (distinct same ys) ≡ list_any (same x) ys → list_any (same x) (distinct same (ys ++ y ∷ [])) ≡ list_any (same x) (ys ++ y ∷ [])
    step ys y e =
        ap (λ zs. list_any (same x) zs) (along-push (if_new same) ys y)
        ∙ list_any-append (same x) (distinct same ys) (if_new same ys y)
        ∙ ap (λ b. b || list_any (same x) (if_new same ys y)) e
        ∙ by ys y (list_any (same y) ys) refl
        ∙ sym (list_any-append (same x) ys (y ∷ []))

pub map_push : {A B : Type 0} (f : A → B) (xs : List A) (x : A) → map f (xs ++ x ∷ []) ≡ map f xs ++ f x ∷ []
map_push f [] x = refl
map_push f (y ∷ ys) x = ap (λ t. f y ∷ t) (map_push f ys x)

pub flat_map-push : {A B : Type 0} (f : A → List B) (xs : List A) (x : A) → flat_map f (xs ++ x ∷ []) ≡ flat_map f xs ++ f x
flat_map-push f [] x = search rules
flat_map-push f (y ∷ ys) x = ap (λ t. f y ++ t) (flat_map-push f ys x) ∙ sym (append_assoc (f y) (flat_map f ys) (f x))

pub fold-push : {A B : Type 0} (f : B → A → B) (b : B) (xs : List A) (x : A) → fold f b (xs ++ x ∷ []) ≡ f (fold f b xs) x
fold-push f b [] x = refl
fold-push f b (y ∷ ys) x = fold-push f (f b y) ys x

-- a filter that keeps none, and one that keeps all
pub filter_none : {A : Type 0} (p : A → Bool) (xs : List A) → All (λ x. p x ≡ false) xs → filter p xs ≡ []
filter_none p [] h = refl
filter_none p (x ∷ xs) h = (let no : p x ≡ false = All-head (λ x. p x ≡ false) x xs h in rw no (filter_none p xs (All-tail (λ x. p x ≡ false) x xs h)))

pub filter_all : {A : Type 0} (p : A → Bool) (xs : List A) → All (λ x. p x ≡ true) xs → filter p xs ≡ xs
filter_all p [] h = refl
filter_all p (x ∷ xs) h = (let yes : p x ≡ true = All-head (λ x. p x ≡ true) x xs h in rw yes (ap (λ t. x ∷ t) (filter_all p xs (All-tail (λ x. p x ≡ true) x xs h))))

-- a scan with one element more
pub scan-push : {S X Y : Type 0} (next : S → X → S) (out : S → X → Y) (a : S) (xs : List X) (x : X) → scan next out a (xs ++ x ∷ []) ≡ scan next out a xs ++ out (fold next a xs) x ∷ []
scan-push next out a [] x = refl
scan-push next out a (y ∷ ys) x = ap (λ t. out a y ∷ t) (scan-push next out (next a y) ys x)

-- a scan whose state tells of each element what f says of the elements before it and of it
pub scan-along : {S X Y : Type 0} (next : S → X → S) (out : S → X → Y) (a : S) (f : List X → X → Y) → ((xs : List X) (x : X) → out (fold next a xs) x ≡ f xs x)
    → (xs : List X) → scan next out a xs ≡ along (λ before x. f before x ∷ []) xs
scan-along {X = X} next out a f e xs = by_push (λ ys. scan next out a ys ≡ along (λ before x. f before x ∷ []) ys) refl step xs where
  step : (ys : List X) (y : X) → scan next out a ys ≡ along (λ before x. f before x ∷ []) ys → scan next out a (ys ++ y ∷ []) ≡ along (λ before x. f before x ∷ []) (ys ++ y ∷ [])
  step ys y h =
      scan-push next out a ys y
      ∙ ap (λ zs. zs ++ out (fold next a ys) y ∷ []) h
      ∙ ap (λ o. along (λ before x. f before x ∷ []) ys ++ o ∷ []) (e ys y)
      ∙ sym (along-push (λ before x. f before x ∷ []) ys y)
