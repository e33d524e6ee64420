-- What threads give, in order.
use Rattle.std.proofs.Common.{◌≡◌, List, Option, None, Some, [], ◌∷◌, map, refl, sym, ap, subst, ◌∙◌, All}
use Rattle.std.specs.Prelude.{Result, Ok, Err, IfOk, MatchResult}
use Rattle.std.specs.List.{AllZip, filter_map, flat_map}
use Rattle.std.specs.Option.{option_to_list}
use Rattle.std.proofs.lemmas.List.Elements.{All-cons, All-nil}

-- where all went well
pub matched : {X E : Type 0} (r : Result X E) (P S : X → Type 0) (Q : E → Type 0) → MatchResult r P Q → ((x : X) → P x → S x) → IfOk r S
matched (Ok x) P S Q h f = f x h
matched (Err e) P S Q h f = tt

pub at_ok : {X E : Type 0} {r : Result X E} {x : X} → r ≡ Ok x → (S : X → Type 0) → IfOk r S → S x
at_ok e S h = subst (λ q. IfOk q S) e h

-- what there is
pub flattened : {X : Type 0} (xs : List (Option X)) → flat_map option_to_list xs ≡ filter_map (λ x. x) xs
flattened [] = refl
flattened (None ∷ xs) = flattened xs
flattened {X} (Some x ∷ xs) = ap (λ (ys : List X). x ∷ ys) (flattened xs)

module _ {A B E : Type 0} (f : A → B) (Q : A → Type 0) where
  abbrev Answers : A → Result B E → Type 0
  Answers a r = IfOk r (λ b. b ≡ f a) × IfOk r (λ _. Q a)

  pub gathered : (xs : List A) (rs : List (Result B E)) (ys : List B) → AllZip Answers xs rs → rs ≡ map Ok ys → ys ≡ map f xs
  gathered [] [] [] h e = refl
  gathered [] [] (y ∷ ys) h e = absurd cc
  gathered [] (r ∷ rs) ys h e = absurd h
  gathered (x ∷ xs) [] ys h e = absurd h
  gathered (x ∷ xs) (r ∷ rs) [] h e = absurd cc
  gathered (x ∷ xs) (Err fault ∷ rs) (y ∷ ys) h e = absurd cc
  gathered (x ∷ xs) (Ok z ∷ rs) (y ∷ ys) h e =
      let first : z ≡ y = cc in
      let rest : rs ≡ map Ok ys = cc in
      ap (λ (b : B). b ∷ ys) (sym first ∙ h.0.0) ∙ ap (λ (bs : List B). f x ∷ bs) (gathered xs rs ys h.1 rest)

  pub all_held : (xs : List A) (rs : List (Result B E)) (ys : List B) → AllZip Answers xs rs → rs ≡ map Ok ys → All Q xs
  all_held [] [] ys h e = All-nil Q
  all_held [] (r ∷ rs) ys h e = absurd h
  all_held (x ∷ xs) [] ys h e = absurd h
  all_held (x ∷ xs) (r ∷ rs) [] h e = absurd cc
  all_held (x ∷ xs) (Err fault ∷ rs) (y ∷ ys) h e = absurd cc
  all_held (x ∷ xs) (Ok z ∷ rs) (y ∷ ys) h e = (let rest : rs ≡ map Ok ys = cc in All-cons Q x xs h.0.1 (all_held xs rs ys h.1 rest))
