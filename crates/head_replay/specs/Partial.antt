-- The slots of each worker, where slots are dealt by their number.
use Rattle.std.specs.Prelude.{ℕ, ◌+◌, ◌%◌, ◌&&◌, nat_le, nat_lt, List, [], ◌∷◌}
use Rattle.std.specs.List.{filter}
use Rattle.head_postings.specs.Postings.{Labels}

-- the slots of the workers from `first` to `end`, without `end`: slot s belongs to worker s modulo `workers`
abbrev pub belonging : ℕ → ℕ → ℕ → List (ℕ × Labels) → List (ℕ × Labels)
belonging workers first end sets = filter (λ s. nat_le first (s.0 % workers) && nat_lt (s.0 % workers) end) sets

-- this holds of each with its number, where they are numbered from the first on
abbrev pub AreNumbered : {J : Type 0} → (ℕ → J → Type 0) → ℕ → List J → Type 0
AreNumbered P first [] = Unit {0}
AreNumbered P first (j ∷ js) = P first j × AreNumbered P (first + 1) js
