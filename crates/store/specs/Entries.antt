-- The elements of an iterator.
use Rattle.std.specs.Prelude.{List, Option, Some}
use Rattle.std.specs.Iterator.{YieldsThen}

-- from the state s on, some call of `next` returns x
abbrev pub Gives : {S A : Type 0} → (S → Option A → S → Type 0) → S → A → Type 0
Gives {S} {A} steps s x = (before : List A) × (left : S) × YieldsThen steps s before (Some x) left
