use Rattle.std.proofs.Common.{◌≡◌, ◌≤◌, ℕ, true, List, length, take}
use Rattle.head_postings.specs.Room.{room_of}
use Rattle.head_postings.specs.Postings.{holds, slots_of}
use Rattle.head_postings.proofs.names.Names.reserve.Given as goal

abbrev pub invariant-loop-i : goal.invariant-loop-i
invariant-loop-i l =
    ((n v : List ℕ) → slots_of l.self.slots n v ≡ slots_of l.fn.self.slots n v)
    × ((n v : List ℕ) → holds (take l.i l.labels) n v ≡ true → length (slots_of l.these.slots n v) ≤ room_of l.self.rooms n v)
    × ((n v : List ℕ) → room_of l.fn.self.rooms n v ≤ room_of l.self.rooms n v)
