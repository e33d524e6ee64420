use Rattle.std.proofs.Common.{◌≡◌, ◌+◌, ◌≤◌, ◌++◌, ℕ, List, length, take}
use Rattle.head_postings.specs.Given.{given}
use Rattle.head_postings.specs.Room.{room_of}
use Rattle.head_postings.specs.Postings.{slots_of}
use Rattle.head_postings.proofs.names.Names.add_ready.Given as goal

abbrev pub invariant-loop-i : goal.invariant-loop-i
invariant-loop-i l =
    ((n v : List ℕ) → slots_of l.self.slots n v ≡ slots_of l.fn.self.slots n v ++ given l.slot (take l.i l.labels) n v)
    × ((n v : List ℕ) → room_of l.fn.self.rooms n v ≤ room_of l.self.rooms n v + length (given 0 (take l.i l.labels) n v))
