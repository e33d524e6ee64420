-- Lists that are taken from their ends, and joined in reverse.
use Rattle.std.proofs.Common.{◌≡◌, List, [], ◌∷◌, ◌++◌, length, map, refl, sym, ap, ◌∙◌, append_assoc, arith}
use mathlib.Core.List.{reverse}
use Rattle.std.proofs.lemmas.List.{append-nil, map-append, reverse-append}

-- what is left, and what has been joined, are all
pub record Shared {X Y L : Type 0} (f : X → L) (g : Y → L) (left : List X) (joined : List Y) (all : List X) : Type 0 where
  pub are : map f left ++ map g (reverse joined) ≡ map f all

pub shared_begun : {X Y L : Type 0} (f : X → L) (g : Y → L) (all : List X) (joined : List Y) → joined ≡ [] → Shared f g all joined all
shared_begun f g all joined e = record { are = ap (λ ys. map f all ++ map g (reverse ys)) e ∙ append-nil (map f all) }

pub shared_more : {X Y L : Type 0} (f : X → L) (g : Y → L) (left rest all : List X) (x : X) (joined more : List Y) (y : Y) → left ≡ rest ++ x ∷ [] → f x ≡ g y → more ≡ joined ++ y ∷ [] → Shared f g left joined all → Shared f g rest more all
shared_more f g left rest all x joined more y l s m h = record {
  are = ap (λ ys. map f rest ++ map g (reverse ys)) m ∙ ap (λ ys. map f rest ++ map g ys) (reverse-append joined (y ∷ [])) ∙ ap (λ z. map f rest ++ z ∷ map g (reverse joined)) (sym s)
      ∙ sym (append_assoc (map f rest) (f x ∷ []) (map g (reverse joined))) ∙ ap (λ xs. xs ++ map g (reverse joined)) (sym (map-append f rest (x ∷ [])) ∙ ap (map f) (sym l)) ∙ h.are;
}

pub shared_all : {X Y L : Type 0} (f : X → L) (g : Y → L) (left all : List X) (joined rows : List Y) → left ≡ [] → rows ≡ reverse joined → Shared f g left joined all → map g rows ≡ map f all
shared_all f g left all joined rows n r h = ap (map g) r ∙ ap (λ xs. map f xs ++ map g (reverse joined)) (sym n) ∙ h.are

same_list : {X : Type 0} (xs : List X) → map (λ x. x) xs ≡ xs
same_list [] = refl
same_list (x ∷ xs) = ap (λ ys. x ∷ ys) (same_list xs)

pub shared_whole : {X Y : Type 0} (g : Y → X) (left all : List X) (joined rows : List Y) → length left ≡ 0 → rows ≡ reverse joined → Shared (λ x. x) g left joined all → map g rows ≡ all
shared_whole g left all joined rows n r h = shared_all (λ x. x) g left all joined rows (none left n) r h ∙ same_list all
  where
    none : {X : Type 0} (ys : List X) → length ys ≡ 0 → ys ≡ []
    none [] e = refl
    none (y ∷ ys) e = absurd (omega (arith, e))
