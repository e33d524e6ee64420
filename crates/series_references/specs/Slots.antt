-- The slots of references, and the references of a slot.
use Rattle.std.specs.Prelude.{◌≡◌, ℕ, ◌≤◌, ◌==◌, nat_lt, if◌then◌else◌, Option, Some, None}
use Rattle.hw_bytes.specs.Lists.{greater_by}

-- the slots of references, with that of the reference q replaced by s
abbrev pub IsWith : (ℕ → Option ℕ) → ℕ → ℕ → (ℕ → Option ℕ) → Type 0
IsWith old q s new = (r : ℕ) → new r ≡ (if q == r then Some s else old r)

-- the greatest of these and r
abbrev pub with_greatest : Option ℕ → ℕ → Option ℕ
with_greatest = greater_by nat_lt

-- the least number that has the property, or none if none has it
abbrev pub IsLeast : (ℕ → Type 0) → Option ℕ → Type 0
IsLeast has None = (r : ℕ) → has r → ⊥
IsLeast has (Some q) = has q × ((r : ℕ) → has r → q ≤ r)
