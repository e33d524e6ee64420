use Rattle.std.proofs.Common.{ℕ, List, length}
use Rattle.head_postings.specs.Postings.{slots_of}
use Rattle.head_postings.proofs.Listed.{seen}
use Rattle.head_postings.proofs.Unions.{IsUnionTo}
use Rattle.head_postings.proofs.Kept.{bytes, slots_in}
use Rattle.head_postings.proofs.names.Names.merge.Given as goal

abbrev pub invariant-loop-name : goal.invariant-loop-name
invariant-loop-name l = (n v : List ℕ) → IsUnionTo (slots_of l.fn.self.slots n v) (slots_of l.fn.other.slots n v) (slots_of l.self.slots n v) (slots_of (seen bytes slots_in l.values.entries) n v)

abbrev pub decreases-loop-name : goal.decreases-loop-name
decreases-loop-name l = length l.values.entries
