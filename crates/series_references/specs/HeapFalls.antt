-- Each of the two heaps below a reference is less high than the heap.
use Rattle.std.specs.Prelude.{ℕ, ◌+◌, ◌≤◌, max}
use Rattle.std.proofs.Common.{arith}
use Rattle.series_references.specs.declared.heap.Link.{Link}
use Rattle.series_references.specs.declared.heap.Link.TheVariants.{Empty, Full}
use Rattle.series_references.specs.declared.heap.Heap.TheDeep.{deep-Link}
use Rattle.series_references.specs.Heap.{height, Node}
use Rattle.series_references.specs.Links.{tree_of}

link_le : (l : Link) → deep-Link l ≤ height (tree_of l) + 1
link_le Empty = omega arith
link_le (Full h) = omega arith

-- no heap below is deeper than the heap is high
pub deep_le-height : (least : ℕ) (even odd : Link) → max (deep-Link even) (max (deep-Link odd) 0) ≤ height (Node least (tree_of even) (tree_of odd))
deep_le-height least even odd = let a = link_le even in let b = link_le odd in omega (arith, a, b)
