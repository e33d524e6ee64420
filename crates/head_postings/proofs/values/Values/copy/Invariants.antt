use Rattle.std.proofs.Common.{◌≡◌, take}
use Rattle.head_postings.proofs.Listed.{seen}
use Rattle.head_postings.proofs.Kept.{bytes}
use Rattle.head_postings.proofs.values.Values.copy.Given as goal

abbrev pub invariant-loop-i : goal.invariant-loop-i
invariant-loop-i l = seen bytes bytes l.lists.entries ≡ take l.i l.self.slots
