-- A bound on each place of a list.
use Rattle.std.proofs.Common.{ℕ, suc, ◌<◌, List, [], ◌∷◌, length, get_or, arith}
use Rattle.head_postings.specs.Slots.{AreBelow}

pub below : (s : ℕ) (ts : List ℕ) → ((k d : ℕ) → k < length ts → get_or ts k d < s) → AreBelow s ts
below s [] each = tt
below s (t ∷ ts) each = (each 0 0 (omega arith), below s ts (λ k d h. each (suc k) d (omega arith)))
