-- Words of private functions and of proofs: the slots in which label sets were found.
use Rattle.std.specs.Prelude.{◌≡◌, ℕ, List, Option, Some, slice_get}
use Rattle.std.specs.Option.{option_and_then, option_map}
use Rattle.std.specs.declared.sync.Arc.{Arc}
use Rattle.wal_record.specs.Labels.{Labels}
use Rattle.head_live.specs.declared.known.KnownSets.{KnownSets}

-- the label set that was found in this slot, if it is noted
abbrev pub set_at : {A : Type 0} → List (Option (Arc Labels A)) → ℕ → Option Labels
set_at sets slot = option_and_then (option_map (λ a. a.value)) (slice_get sets slot)

-- Each label set that is noted for a slot is that of the series in the slot.
abbrev pub Knows : KnownSets → List Labels → Type 0
Knows k series = (slot : ℕ) (l : Labels) → set_at k.sets.items slot ≡ Some l → slice_get series slot ≡ Some l
