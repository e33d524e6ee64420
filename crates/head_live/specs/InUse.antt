-- Words of private functions and of proofs: numbers that are in use.
use Rattle.std.specs.Prelude.{◌≡◌, ◌⊎◌, ℕ, List, [], ◌∷◌, ◌++◌, Some, slice_get}

-- The numbers in use, how many numbers have a place, and for how many in use there is room.
pub record NumbersInUse : Type 0 where
  pub numbers : List ℕ
  pub places : ℕ
  pub room : ℕ

-- each number in use has its index in its place
abbrev pub AreIndexed : List ℕ → List ℕ → Type 0
AreIndexed indices numbers = (i n : ℕ) → slice_get numbers i ≡ Some n → slice_get indices n ≡ Some i

-- no number comes twice
abbrev pub AreOnce : List ℕ → Type 0
AreOnce numbers = (i j n : ℕ) → slice_get numbers i ≡ Some n → slice_get numbers j ≡ Some n → i ≡ j

-- the number came last, or was there
abbrev pub IsMoreBy : ℕ → List ℕ → List ℕ → Type 0
IsMoreBy n before after = (after ≡ before) ⊎ (after ≡ before ++ n ∷ [])
