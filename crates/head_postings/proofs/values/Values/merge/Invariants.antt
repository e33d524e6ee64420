use Rattle.std.proofs.Common.{ℕ, List, length}
use Rattle.head_postings.specs.Postings.{listed}
use Rattle.head_postings.proofs.Listed.{seen}
use Rattle.head_postings.proofs.Unions.{IsUnionTo}
use Rattle.head_postings.proofs.Kept.{bytes}
use Rattle.head_postings.proofs.values.Values.merge.Given as goal

abbrev pub invariant-loop-value : goal.invariant-loop-value
invariant-loop-value l = (v : List ℕ) → IsUnionTo (listed l.fn.self.slots v) (listed l.fn.other.slots v) (listed l.self.slots v) (listed (seen bytes bytes l.lists.entries) v)

abbrev pub decreases-loop-value : goal.decreases-loop-value
decreases-loop-value l = length l.lists.entries
