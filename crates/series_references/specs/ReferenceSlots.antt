-- How the slots of references are kept. What is known above of references is `low_end` and `high_one`; the rest are words of proofs.
use Rattle.std.specs.Prelude.{ℕ, zero, suc, List, [], ◌∷◌, ◌++◌, Option, None, Some, nat_eq, nat_le, nat_lt, length, filter, slice_index, take, IsTrue, if◌then◌else◌}
use Rattle.std.specs.Map.{lookup}

-- references below this one have a place in a list, and the others are keys of a map
abbrev pub low_end : ℕ
low_end = 4194304

-- 1 for a reference from `low_end` on, and 0 for one below
abbrev pub high_one : ℕ → ℕ
high_one r = if nat_lt r low_end then 0 else 1

-- For each reference below `low_end` its slot plus 1, or 0; the slots of the others; and how many of these can be added without allocating.
pub record ReferenceSlotsValue : Type 0 where
  pub low : List ℕ
  pub high : List (ℕ × ℕ)
  pub room : ℕ

abbrev pub before_one : ℕ → Option ℕ
before_one zero = None
before_one (suc n) = Some n

-- the slot of a reference
abbrev pub slot_of : ReferenceSlotsValue → ℕ → Option ℕ
slot_of o r = if nat_lt r low_end then before_one (slice_index o.low r) else lookup (nat_eq r) o.high

-- the references from n on with their slots, where these are in a list
abbrev pub low_pairs : ℕ → List ℕ → List (ℕ × ℕ)
low_pairs n [] = []
low_pairs n (zero ∷ more) = low_pairs (suc n) more
low_pairs n (suc s ∷ more) = (n, s) ∷ low_pairs (suc n) more

-- each reference that has a slot, beside it
abbrev pub pairs_of : ReferenceSlotsValue → List (ℕ × ℕ)
pairs_of o = low_pairs 0 (take low_end o.low) ++ filter (λ e. nat_le low_end e.0) o.high

-- there is room for the slot of the reference
abbrev pub HasRoom : ReferenceSlotsValue → ℕ → Type 0
HasRoom o r = IsTrue (if nat_lt r low_end then nat_lt r (length o.low) else nat_lt 0 o.room)
