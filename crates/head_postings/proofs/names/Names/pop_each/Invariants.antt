use Rattle.std.proofs.Common.{◌≡◌, ◌≤◌, ◌++◌, ℕ, List, length, take}
use Rattle.head_postings.specs.Given.{given}
use Rattle.head_postings.specs.Postings.{slots_of}
use Rattle.head_postings.proofs.names.Names.pop_each.Given as goal

abbrev pub invariant-loop-left : goal.invariant-loop-left
invariant-loop-left l =
    (l.left ≤ length l.labels)
    × ((s : ℕ) (n v before : List ℕ) → slots_of l.fn.self.slots n v ≡ before ++ given s (take l.many l.labels) n v → slots_of l.self.slots n v ≡ before ++ given s (take l.left l.labels) n v)

abbrev pub decreases-loop-left : goal.decreases-loop-left
decreases-loop-left l = l.left
