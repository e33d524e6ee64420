-- Two lists side by side, of which one is at its end.
use Rattle.std.proofs.Common.{◌≡◌, ◌⊎◌, inl, inr, List, [], ◌∷◌, ◌++◌, map, refl, sym, ap, subst, ◌∙◌, append_assoc, All}
use Rattle.std.specs.List.{flat_map, zip}
use Rattle.std.proofs.lemmas.List.Elements.{All-append, All-cons, All-nil}
use Rattle.hw_bytes.proofs.Lists.{append_none}

module _ {A B : Type 0} where
  zip_none : (xs : List A) (ys : List B) → (xs ≡ []) ⊎ (ys ≡ []) → zip xs ys ≡ []
  zip_none [] ys one = refl
  zip_none (x ∷ xs) [] one = refl
  zip_none (x ∷ xs) (y ∷ ys) (inl e) = absurd cc
  zip_none (x ∷ xs) (y ∷ ys) (inr e) = absurd cc

  -- what a loop has made of two lists, once one of them is at its end
  pub map_zipped : {C : Type 0} (f : A × B → C) (done all : List C) (xs : List A) (ys : List B) → (xs ≡ []) ⊎ (ys ≡ []) → done ++ map f (zip xs ys) ≡ all → done ≡ all
  map_zipped {C} f done all xs ys one h = sym (append_none done) ∙ ap (λ (z : List (A × B)). done ++ map f z) (sym (zip_none xs ys one)) ∙ h

  pub flat_map_zipped : {C : Type 0} (f : A × B → List C) (done all : List C) (xs : List A) (ys : List B) → (xs ≡ []) ⊎ (ys ≡ []) → done ++ flat_map f (zip xs ys) ≡ all → done ≡ all
  flat_map_zipped {C} f done all xs ys one h = sym (append_none done) ∙ ap (λ (z : List (A × B)). done ++ flat_map f z) (sym (zip_none xs ys one)) ∙ h

  -- what a loop has made of two lists, after one more of each
  pub zipped_more : {C : Type 0} (f : A × B → C) (done next all : List C) (one : C) (xs more : List A) (ys rest : List B) (x : A) (y : B) → xs ≡ x ∷ more → ys ≡ y ∷ rest → one ≡ f (x, y) → next ≡ done ++ one ∷ [] → done ++ map f (zip xs ys) ≡ all
      → next ++ map f (zip more rest) ≡ all
  zipped_more {C} f done next all one xs more ys rest x y p q r push h =
      ap (λ (cs : List C). cs ++ map f (zip more rest)) push ∙ append_assoc done (one ∷ []) (map f (zip more rest)) ∙ ap (λ (c : C). done ++ c ∷ map f (zip more rest)) r
      ∙ sym (ap (λ (zs : List A). done ++ map f (zip zs ys)) p ∙ ap (λ (zs : List B). done ++ map f (zip (x ∷ more) zs)) q) ∙ h

-- what holds of each, after one more
pub all_more : {A : Type 0} (P : A → Type 0) (done next : List A) (one made : A) → All P done → P made → one ≡ made → next ≡ done ++ one ∷ [] → All P next
all_more P done next one made h p e push = subst (All P) (sym push) (All-append P done (one ∷ []) h (All-cons P one [] (subst P (sym e) p) (All-nil P)))
