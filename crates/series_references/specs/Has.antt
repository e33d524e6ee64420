-- A number among numbers: a word of proofs, which no public contract cites.
use Rattle.std.specs.Prelude.{ℕ, Bool, List, nat_eq}
use Rattle.std.specs.List.{list_any}

-- the number is among them
abbrev pub has : List ℕ → ℕ → Bool
has ns n = list_any (nat_eq n) ns
