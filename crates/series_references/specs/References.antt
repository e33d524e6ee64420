-- How the least reference of a series is found: words of proofs, which no public contract cites.
use Rattle.std.specs.Prelude.{◌≡◌, ℕ, ◌<◌, ◌⊎◌, true, List, [], Option, Some, length, slice_index, slice_index_or}
use Rattle.series_references.specs.Has.{has}
use Rattle.series_references.specs.ReferenceSlots.{ReferenceSlotsValue}

-- The slots of references, the number of series, and how many more can be added without allocating.
pub record ReferencesValue : Type 0 where
  pub slots : ReferenceSlotsValue
  pub series : ℕ
  pub room : ℕ

-- the references that are kept for a slot
abbrev pub kept_at : List (List ℕ) → ℕ → List ℕ
kept_at ks s = slice_index_or ks s []

-- the first that is kept for the slot has it, or no reference has it
abbrev pub IsFirst : (ℕ → Option ℕ) → List (List ℕ) → ℕ → Type 0
IsFirst slots ks s = (slots (slice_index (kept_at ks s) 0) ≡ Some s) ⊎ ((r : ℕ) → slots r ≡ Some s → ⊥)

-- each reference that has a slot is kept for it, and the first that is kept is one, if there is any
pub record AreKept (slots : ℕ → Option ℕ) (ks : List (List ℕ)) : Type 0 where
  pub within : (r s : ℕ) → slots r ≡ Some s → s < length ks
  pub kept : (r s : ℕ) → slots r ≡ Some s → has (kept_at ks s) r ≡ true
  pub first : (s : ℕ) → s < length ks → IsFirst slots ks s
