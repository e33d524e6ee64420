-- Jobs that finish one job and then another.
use Rattle.crew.specs.declared.turns.InTurn.{InTurn}

-- the first is done, and the second
abbrev pub AreBothDone : {A B : Type 0} → (A → A → Type 0) → (B → B → Type 0) → InTurn A B → InTurn A B → Type 0
AreBothDone first second old new = first old.first new.first × second old.second new.second
