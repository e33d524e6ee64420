-- The references of a heap: words of proofs, which no public contract but that of the law of its height cites.
use Rattle.std.specs.Prelude.{◌≡◌, ◌<◌, ◌+◌, ◌%◌, ◌^◌, ℕ, ⊤, true, max, List, [], ◌∷◌, ◌++◌}
use Rattle.series_references.specs.Has.{has}

-- References as they lie in a heap: none, or one, and those of the two heaps below it.
pub data Tree : Type 0 where
  Leaf : Tree
  Node : ℕ → Tree → Tree → Tree

-- the references of a heap
abbrev pub references : Tree → List ℕ
references Leaf = []
references (Node r even odd) = r ∷ references even ++ references odd

-- the most references of a heap that lie one below another
abbrev pub height : Tree → ℕ
height Leaf = 0
height (Node r even odd) = 1 + max (height even) (height odd)

-- each of these is greater
abbrev pub IsBelowAll : ℕ → List ℕ → Type 0
IsBelowAll r rs = (q : ℕ) → has rs q ≡ true → r < q

-- The last so many bits of each reference are these. Of those below a reference, each is greater than it, and those whose next bit is 0 lie in
-- the one heap, those whose next bit is 1 in the other.
abbrev pub IsParted : ℕ → ℕ → Tree → Type 0
IsParted depth bits Leaf = ⊤
IsParted depth bits (Node r even odd) = (r % 2 ^ depth ≡ bits) × IsBelowAll r (references even ++ references odd) × IsParted (depth + 1) bits even × IsParted (depth + 1) (bits + 2 ^ depth) odd
