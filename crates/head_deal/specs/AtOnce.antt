-- An item that is applied at once.
use Rattle.std.specs.Prelude.{◌≡◌, ℕ, ◌<◌, ◌+◌, ◌*◌, length, slice_index_or, slice_set, Result, Ok, Err}
use Rattle.head_deal.specs.Dealing.{Share}

-- the builder at an element of a part was `before` and is `now`
pub record IsChanged {B I O : Type 0} (old : Share B I O) (element : ℕ) (before now : B) (new : Share B I O) : Type 0 where
  pub low : element < length old.slots
  pub was : slice_index_or old.slots element (old.worker + element * old.workers, before) ≡ (old.worker + element * old.workers, before)
  pub is : new ≡ record old { slots = slice_set old.slots element (old.worker + element * old.workers, now) }

-- an item was applied to the builder at an element of a part, or its value is unchanged
abbrev pub PartApplied : {B V I O E : Type 0} → (B → V) → (V → I → V) → (V → I → O) → Share B I O → ℕ → I → Result O E → Share B I O → Type 0
PartApplied {B} value after outcome old element item (Ok o) new =
    (before : B) × (now : B) × IsChanged old element before now new × (value now ≡ after (value before) item) × (o ≡ outcome (value before) item)
PartApplied {B} value after outcome old element item (Err e) new = (before : B) × (now : B) × IsChanged old element before now new × (value now ≡ value before)
