-- What a run that writes sees of the log that it reads.
use Rattle.std.specs.Prelude.{ℕ, List}
use Rattle.store.specs.Calls.{Call}
use Rattle.store.specs.Found.{Found}
use Rattle.store.specs.Views.{View, view_of}

-- what the store held at the path at some moment from `old` on
abbrev pub HeldSince : {S : Type 0} → (S → List Call → S → Type 0) → (S → List ℕ → Found → Type 0) → S → List ℕ → Found → Type 0
HeldSince {S} did holds old path found = (s : S) × (made : List Call) × did old made s × holds s path found

-- the names that a directory had at `old`, and the bytes that a file had at some moment from there on
abbrev pub seen_since : {S : Type 0} → (S → List Call → S → Type 0) → (S → List ℕ → Found → Type 0) → S → View
seen_since did holds old = record { names = (view_of (holds old)).names; bytes = (view_of (HeldSince did holds old)).bytes }
