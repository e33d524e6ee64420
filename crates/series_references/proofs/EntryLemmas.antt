-- The entries of a map from one of them on.
use Rattle.std.proofs.Common.{◌≡◌, ℕ, zero, suc, Bool, true, false, List, [], ◌∷◌, Some, ap, sym, ◌∙◌, refl, drop, eqb-true, eq-eqb}
use Rattle.std.specs.Prelude.{◌==◌, nat_eq, slice_get, if◌then◌else◌}
use Rattle.std.specs.Map.{lookup}

pub drop_at : {A : Type 0} (xs : List A) (n : ℕ) (x : A) → slice_get xs n ≡ Some x → drop n xs ≡ x ∷ drop (suc n) xs
drop_at [] n x h = cc
drop_at (y ∷ ys) zero x h = let k : y ≡ x = cc in ap (λ z. z ∷ ys) k
drop_at (y ∷ ys) (suc n) x h = drop_at ys n x h

eq_flip : (a b : ℕ) → (a == b) ≡ nat_eq b a
eq_flip a b = at (a == b) (nat_eq b a) refl refl where
  at : (x y : Bool) → (a == b) ≡ x → nat_eq b a ≡ y → x ≡ y
  at true true e f = refl
  at true false e f = let k : a ≡ b = eqb-true a b e in let m : nat_eq b a ≡ true = eq-eqb b a (sym k) in cc
  at false true e f = let k : b ≡ a = eqb-true b a f in let m : (a == b) ≡ true = eq-eqb a b (sym k) in cc
  at false false e f = refl

-- one entry more, put in before the later ones
pub put_front : (es : List (ℕ × ℕ)) (n left key v : ℕ) → left ≡ suc n → slice_get es n ≡ Some (key, v) → (k : ℕ) → (if key == k then Some v else lookup (nat_eq k) (drop left es)) ≡ lookup (nat_eq k) (drop n es)
put_front es n left key v e h k =
    ap (λ m. if key == k then Some v else lookup (nat_eq k) (drop m es)) e
    ∙ ap (λ b. if b then Some v else lookup (nat_eq k) (drop (suc n) es)) (eq_flip key k)
    ∙ ap (lookup (nat_eq k)) (sym (drop_at es n (key, v) h))
