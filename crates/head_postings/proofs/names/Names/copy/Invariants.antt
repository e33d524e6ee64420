use Rattle.std.proofs.Common.{◌≡◌, take}
use Rattle.head_postings.proofs.Listed.{seen}
use Rattle.head_postings.proofs.Kept.{bytes, slots_in}
use Rattle.head_postings.proofs.names.Names.copy.Given as goal

abbrev pub invariant-loop-i : goal.invariant-loop-i
invariant-loop-i l = seen bytes slots_in l.values.entries ≡ take l.i l.self.slots
