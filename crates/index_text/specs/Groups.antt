-- Groups of the elements of a list, by a key.
use Rattle.std.specs.Prelude.{ℕ, suc, Bool, List, [], ◌∷◌, map, filter, if◌then◌else◌}
use Rattle.std.specs.Ordering.{is_eq}
use Rattle.std.specs.declared.cmp.Ordering.{Ordering}
use Rattle.index_text.specs.Sets.{ascending}

-- how many first elements pass the test
abbrev pub run_length : {X : Type 0} → (X → Bool) → List X → ℕ
run_length p [] = 0
run_length p (x ∷ xs) = if p x then suc (run_length p xs) else 0

module _ {X K : Type 0} (key : X → K) (cmp : K → K → Ordering) where
  -- the distinct keys in ascending order
  abbrev pub keys : List X → List K
  keys xs = ascending cmp (map key xs)

  -- the elements with this key
  abbrev pub members : List X → K → List X
  members xs k = filter (λ x. is_eq (cmp (key x) k)) xs
