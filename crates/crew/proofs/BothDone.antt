-- What is done of jobs that finish one job and then another is done of each.
use Rattle.std.proofs.Common.{◌≡◌, ℕ, zero, suc, List, [], ◌∷◌, ◌++◌, append_assoc, map, Some, refl, sym, ap, subst, ◌∙◌}
use Rattle.std.specs.Prelude.{slice_get}
use Rattle.std.proofs.lemmas.List.{append-nil, length-map, map-append}
use Rattle.crew.specs.Jobs.{AreDone}
use Rattle.crew.specs.BothDone.{AreBothDone}
use Rattle.crew.specs.declared.turns.InTurn.{InTurn}

-- what is done of jobs is done of what they hold
held_done : {A B : Type 0} (f : A → B) (P : A → A → Type 0) (Q : B → B → Type 0) → ((x y : A) → P x y → Q (f x) (f y)) → (before after : List A) → AreDone P before after → AreDone Q (map f before) (map f after)
held_done f P Q of before after k = record { long = length-map after f ∙ k.long ∙ sym (length-map before f); each = held before after (λ i x y there here. of x y (k.each i x y there here)) } where
  held : (before after : List _) → ((i : ℕ) (x y : _) → slice_get before i ≡ Some x → slice_get after i ≡ Some y → Q (f x) (f y)) → (i : ℕ) (x y : _) → slice_get (map f before) i ≡ Some x → slice_get (map f after) i ≡ Some y → Q x y
  held [] after k i x y there here = absurd cc
  held (b ∷ before) [] k i x y there here = absurd cc
  held (b ∷ before) (a ∷ after) k zero x y there here = (let e : f b ≡ x = cc in let d : f a ≡ y = cc in subst (λ z. Q x z) d (subst (λ z. Q z (f a)) e (k 0 b a refl refl)))
  held (b ∷ before) (a ∷ after) k (suc i) x y there here = held before after (λ j. k (suc j)) i x y there here

-- of jobs that are both done, each is
pub firsts_done : {A B : Type 0} (P : A → A → Type 0) (Q : B → B → Type 0) (before after : List (InTurn A B)) (old new : List A) → AreDone (AreBothDone P Q) before after → map (λ job. job.first) before ≡ old → new ≡ map (λ job. job.first) after → AreDone P old new
firsts_done P Q before after old new k is are = subst (AreDone P old) (sym are) (subst (λ js. AreDone P js (map (λ job. job.first) after)) is (held_done (λ job. job.first) (AreBothDone P Q) P (λ x y h. h.0) before after k))

pub seconds_done : {A B : Type 0} (P : A → A → Type 0) (Q : B → B → Type 0) (before after : List (InTurn A B)) (old new : List B) → AreDone (AreBothDone P Q) before after → map (λ job. job.second) before ≡ old → new ≡ map (λ job. job.second) after → AreDone Q old new
seconds_done P Q before after old new k is are = subst (AreDone Q old) (sym are) (subst (λ js. AreDone Q js (map (λ job. job.second) after)) is (held_done (λ job. job.second) (AreBothDone P Q) Q (λ x y h. h.1) before after k))

-- one more of the elements that are left is held
pub held_more : {A B : Type 0} (f : A → B) (js ks : List A) (j : A) (rest next all : List B) → ks ≡ js ++ j ∷ [] → rest ≡ f j ∷ next → map f js ++ rest ≡ all → map f ks ++ next ≡ all
held_more f js ks j rest next all is are h =
    ap (λ (ls : List _). map f ls ++ next) is ∙ ap (λ (bs : List _). bs ++ next) (map-append f js (j ∷ [])) ∙ append_assoc (map f js) (f j ∷ []) next ∙ ap (λ (bs : List _). map f js ++ bs) (sym are) ∙ h

-- none is left, so all are held
pub held_all : {A B : Type 0} (f : A → B) (js : List A) (rest all : List B) → rest ≡ [] → map f js ++ rest ≡ all → map f js ≡ all
held_all f js rest all none h = sym (append-nil (map f js)) ∙ ap (λ (bs : List _). map f js ++ bs) (sym none) ∙ h

-- nothing is held yet
pub held_none : {A B : Type 0} (f : A → B) (js : List A) (rest all : List B) → js ≡ [] → rest ≡ all → map f js ++ rest ≡ all
held_none f js rest all none h = ap (λ (ls : List _). map f ls ++ rest) none ∙ h
