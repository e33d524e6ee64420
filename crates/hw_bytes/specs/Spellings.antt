-- A form is a relation between bytes and values: `P bytes x` says that the bytes spell x.
use Rattle.std.specs.Prelude.{◌≡◌, ℕ, ◌<◌, ◌≤◌, List, [], ◌∷◌, ◌++◌, length, take, slice_index}

-- the numbers in a list of bytes are below 256
abbrev pub IsBytes : List ℕ → Type 0
IsBytes bytes = (i : ℕ) → slice_index bytes i < 256

-- the first len of the bytes spell x
pub record IsAt {X : Type 0} (P : List ℕ → X → Type 0) (bytes : List ℕ) (x : X) (len : ℕ) : Type 0 where
  pub within : len ≤ length bytes
  pub spelled : P (take len bytes) x

-- no prefix of the bytes spells anything
abbrev pub IsNowhere : {X : Type 0} → (List ℕ → X → Type 0) → List ℕ → Type 0
IsNowhere {X = X} P bytes = (front rest : List ℕ) (x : X) → P front x → bytes ≡ front ++ rest → ⊥

-- no spelling is empty, none is a proper prefix of another, and each spells one value: bytes begin with at most one spelling
pub record IsCode {X : Type 0} (P : List ℕ → X → Type 0) : Type 0 where
  pub one : (f r g s : List ℕ) (x y : X) → P f x → P g y → f ++ r ≡ g ++ s → (x ≡ y) × (r ≡ s)
  pub some : (front : List ℕ) (x : X) → P front x → 0 < length front

-- the bytes are spellings of these values in order, with nothing between or after them
abbrev pub Each : {X : Type 0} → (List ℕ → X → Type 0) → List ℕ → List X → Type 0
Each P bytes [] = bytes ≡ []
Each P bytes (x ∷ xs) = (front : List ℕ) × (rest : List ℕ) × (bytes ≡ front ++ rest) × P front x × Each P rest xs
