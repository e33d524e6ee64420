-- A list in parts.
use Rattle.std.specs.Prelude.{◌≡◌, ℕ, zero, suc, ◌<◌, ◌≤◌, List, [], ◌∷◌, length, take, drop}
use Rattle.std.specs.List.{flat_map}

-- the first k parts of n elements, the last part perhaps shorter
abbrev pub parts_in : {A : Type 0} → ℕ → ℕ → List A → List (List A)
parts_in zero n xs = []
parts_in (suc k) n [] = []
parts_in (suc k) n (x ∷ xs) = take n (x ∷ xs) ∷ parts_in k n (drop n (x ∷ xs))

-- a list in parts of n elements, the last part perhaps shorter: the only list of parts that is `ArePartsOf`
abbrev pub parts : {A : Type 0} → ℕ → List A → List (List A)
parts n xs = parts_in (length xs) n xs

-- each part but the last has n elements, and the last one has 1 to n
abbrev pub AreFull : {A : Type 0} → ℕ → List (List A) → Type 0
AreFull n [] = Unit {0}
AreFull n (p ∷ []) = (0 < length p) × (length p ≤ n)
AreFull n (p ∷ q ∷ more) = (length p ≡ n) × AreFull n (q ∷ more)

-- the parts, joined again, are the list
pub record ArePartsOf {A : Type 0} (n : ℕ) (xs : List A) (ps : List (List A)) : Type 0 where
  pub joined : flat_map (λ p. p) ps ≡ xs
  pub full : AreFull n ps
