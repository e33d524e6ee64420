use Rattle.std.proofs.Common.{◌≡◌, ◌≤◌, ◌∷◌, ℕ, Some, true, length}
use Rattle.series_references.specs.Has.{has}
use Rattle.series_references.specs.Heap.{IsParted}
use Rattle.series_references.specs.Links.{items_of, tree_of}
use Rattle.series_references.specs.ReferenceSlots.{slot_of}
use Rattle.series_references.proofs.candidates.Candidates.settle.Given as goal

abbrev pub invariant-loop-self : goal.invariant-loop-self
invariant-loop-self l = record {
  kept : (r : ℕ) → slot_of l.slots r ≡ Some l.slot → has l.fn.self r ≡ true → has (l.self-inside.least ∷ items_of l.self-inside.others) r ≡ true;
  parted : IsParted 0 0 (tree_of l.self-inside.others);
  least : (r : ℕ) → has (items_of l.self-inside.others) r ≡ true → l.self-inside.least ≤ r;
}

abbrev pub decreases-loop-self : goal.decreases-loop-self
decreases-loop-self l = length (items_of l.self-inside.others)
