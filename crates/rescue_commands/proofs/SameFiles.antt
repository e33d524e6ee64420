-- Files that are compared one after another.
use Rattle.std.proofs.Common.{◌≡◌, ℕ, ◌+◌, ◌<◌, List, [], ◌∷◌, ◌++◌, ap, get_or, length, sym, take, ◌∙◌}
use Rattle.std.proofs.lemmas.List.{take_more}

pub one_more_same : {X : Type 0} (xs ys : List X) (i : ℕ) (x y : X) → i < length xs → i < length ys → x ≡ get_or xs i x → y ≡ get_or ys i y → x ≡ y → take i xs ≡ take i ys → take (i + 1) xs ≡ take (i + 1) ys
one_more_same {X = X} xs ys i x y here there at also same so_far =
    take_more xs i x here
    ∙ ap (λ (z : X). take i xs ++ z ∷ []) (sym at ∙ same ∙ also)
    ∙ ap (λ (zs : List X). zs ++ get_or ys i y ∷ []) so_far
    ∙ sym (take_more ys i y there)
