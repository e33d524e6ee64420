-- The greatest of a list, as `max` of an iterator finds it.
use Rattle.std.proofs.Common.{◌≡◌, ℤ, suc, ap, ◌<◌, length, List, [], ◌∷◌, ◌⊎◌, inl, inr, refl, sym, ◌∙◌, subst, Option, Some, None, All, Contains, arith}
use Rattle.std.specs.Prelude.{◌≤ℤ◌, fold}
use Rattle.std.specs.List.{reduce}
use Rattle.std.specs.Ordering.{int_cmp, max_by_ordering}
use Rattle.std.proofs.lemmas.List.Elements.{All-cons}
use Rattle.std.proofs.lemmas.Int.{ints, fold-int_max_bounds, fold-int_max_reached}
use Rattle.std.specs.Int.{int_max}
use Rattle.log_directory.specs.Greatest.{IsGreatest}

-- the later of two times
abbrev pub later : ℤ → ℤ → ℤ
later p z = max_by_ordering (int_cmp p z) p z

later_max : (p z : ℤ) → later p z ≡ int_max p z
later_max p z = grind (arith, ints)

fold_later : (a : ℤ) (xs : List ℤ) → fold later a xs ≡ fold int_max a xs
fold_later a [] = refl
fold_later a (x ∷ xs) = fold_later (later a x) xs ∙ ap (λ b. fold int_max b xs) (later_max a x)

contained : (x m : ℤ) (xs : List ℤ) → (m ≡ x) ⊎ Contains xs m → Contains (x ∷ xs) m
contained x m xs (inl e) = (0, omega arith, sym e)
contained x m xs (inr (k, lt, e)) = (suc k, omega arith, e)

pub greatest_reduced : (xs : List ℤ) (r : Option ℤ) → r ≡ reduce later xs → IsGreatest xs r
greatest_reduced [] None e = refl
greatest_reduced [] (Some m) e = absurd (cc)
greatest_reduced (x ∷ xs) None e = absurd (cc)
greatest_reduced (x ∷ xs) (Some m) e =
    let is : m ≡ fold later x xs = cc in
    let greatest : m ≡ fold int_max x xs = is ∙ fold_later x xs in
    let bounds = fold-int_max_bounds x xs m greatest in
    (contained x m xs (fold-int_max_reached x xs m greatest), All-cons (λ other. other ≤ℤ m) x xs bounds.0 bounds.1)
