-- Strictly ascending lists.
use Rattle.std.specs.Prelude.{◌≡◌, ℕ, ◌+◌, List, [], ◌∷◌, if◌then◌else◌}
use Rattle.std.specs.Ordering.{nat_cmp, is_eq, is_lt}
use Rattle.std.specs.Cmp.Lexicographic.{slice_cmp}
use Rattle.std.specs.declared.cmp.Ordering.{Ordering}
use Rattle.std.specs.declared.cmp.Ordering.TheVariants.{Less}

module _ {A : Type 0} (cmp : A → A → Ordering) where
  -- an ascending list with x added
  abbrev pub with_one : A → List A → List A
  with_one x [] = x ∷ []
  with_one x (y ∷ ys) = if is_lt (cmp x y) then x ∷ y ∷ ys else (if is_eq (cmp x y) then y ∷ ys else y ∷ with_one x ys)

  -- the distinct elements in ascending order
  abbrev pub ascending : List A → List A
  ascending [] = []
  ascending (x ∷ xs) = with_one x (ascending xs)

  -- x is less than each of these
  abbrev pub IsBefore : A → List A → Type 0
  IsBefore x [] = Unit {0}
  IsBefore x (y ∷ ys) = (cmp x y ≡ Less) × IsBefore x ys

  -- each element is less than all later ones
  abbrev pub IsAscending : List A → Type 0
  IsAscending [] = Unit {0}
  IsAscending (x ∷ xs) = IsBefore x xs × IsAscending xs

  -- how many elements are less than x
  abbrev pub rank : A → List A → ℕ
  rank x [] = 0
  rank x (y ∷ ys) = if is_lt (cmp y x) then rank x ys + 1 else rank x ys

-- the order of texts by their bytes
abbrev pub text_cmp : List ℕ → List ℕ → Ordering
text_cmp a b = slice_cmp nat_cmp a b
