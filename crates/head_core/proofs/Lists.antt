-- Lists place by place.
use Rattle.std.proofs.Common.{◌≡◌, ℕ, zero, suc, ◌+◌, List, [], ◌∷◌, ◌++◌, Some, ap, subst, ◌∙◌, refl, length, arith}
use Rattle.std.specs.Prelude.{All, slice_get}
use Rattle.std.specs.List.{enumerate_from, AllZip}
use Rattle.std.proofs.lemmas.List.Elements.{All-drop, All-take}
use Rattle.std.proofs.Math.Seq.{drop-append_seam, take-append_seam}

module _ {A B : Type 0} where
  pub AllZip-length : (P : A → B → Type 0) (xs : List A) (ys : List B) → AllZip P xs ys → length xs ≡ length ys
  AllZip-length P [] [] h = refl
  AllZip-length P [] (y ∷ ys) h = absurd h
  AllZip-length P (x ∷ xs) [] h = absurd h
  AllZip-length P (x ∷ xs) (y ∷ ys) h = ap suc (AllZip-length P xs ys h.1)

  -- of the two at one place
  pub AllZip-at : (P : A → B → Type 0) (xs : List A) (ys : List B) (p : ℕ) {x : A} {y : B} → AllZip P xs ys → slice_get xs p ≡ Some x → slice_get ys p ≡ Some y → P x y
  AllZip-at P [] ys p h e f = cc
  AllZip-at P (w ∷ xs) [] p h e f = absurd h
  AllZip-at P (w ∷ xs) (z ∷ ys) zero {x} {y} h e f = subst (λ v. P v y) (let k : w ≡ x = cc in k) (subst (P w) (let k : z ≡ y = cc in k) h.0)
  AllZip-at P (w ∷ xs) (z ∷ ys) (suc p) h e f = AllZip-at P xs ys p h.1 e f

  pub AllZip-weaker : (P Q : A → B → Type 0) → ((x : A) (y : B) → P x y → Q x y) → (xs : List A) (ys : List B) → AllZip P xs ys → AllZip Q xs ys
  AllZip-weaker P Q f [] [] h = tt
  AllZip-weaker P Q f [] (y ∷ ys) h = absurd h
  AllZip-weaker P Q f (x ∷ xs) [] h = absurd h
  AllZip-weaker P Q f (x ∷ xs) (y ∷ ys) h = (f x y h.0, AllZip-weaker P Q f xs ys h.1)

  pub AllZip-one_more : (P : A → B → Type 0) (xs : List A) (ys : List B) (x : A) (y : B) → AllZip P xs ys → P x y → AllZip P (xs ++ x ∷ []) (ys ++ y ∷ [])
  AllZip-one_more P [] [] x y h k = (k, tt)
  AllZip-one_more P [] (z ∷ ys) x y h k = absurd h
  AllZip-one_more P (w ∷ xs) [] x y h k = absurd h
  AllZip-one_more P (w ∷ xs) (z ∷ ys) x y h k = (h.0, AllZip-one_more P xs ys x y h.1 k)

-- numbered, with one more
pub enumerate_from-push : {A : Type 0} (n : ℕ) (xs : List A) (x : A) → enumerate_from n (xs ++ x ∷ []) ≡ enumerate_from n xs ++ (n + length xs, x) ∷ []
enumerate_from-push n [] x = ap (λ m. (m, x) ∷ []) (let k : n ≡ n + 0 = omega arith in k)
enumerate_from-push n (y ∷ ys) x =
    ap (λ zs. (n, y) ∷ zs) (enumerate_from-push (n + 1) ys x)
    ∙ ap (λ m. (n, y) ∷ (enumerate_from (n + 1) ys ++ (m, x) ∷ [])) (let k : (n + 1) + length ys ≡ n + suc (length ys) = omega arith in k)

-- what holds of all holds of the first of them, and of the rest
pub all_front : {A : Type 0} (P : A → Type 0) (xs ys : List A) → All P (xs ++ ys) → All P xs
all_front P xs ys h = subst (All P) (take-append_seam xs ys) (All-take P (length xs) (xs ++ ys) h)

pub all_behind : {A : Type 0} (P : A → Type 0) (xs ys : List A) → All P (xs ++ ys) → All P ys
all_behind P xs ys h = subst (All P) (drop-append_seam xs ys) (All-drop P (length xs) (xs ++ ys) h)
