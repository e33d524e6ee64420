-- The references of a heap, or of none.
use Rattle.std.specs.Prelude.{ℕ, List}
use Rattle.series_references.specs.declared.heap.Link.{Link}
use Rattle.series_references.specs.declared.heap.Link.TheVariants.{Empty, Full}
use Rattle.series_references.specs.Heap.{Tree, Leaf, Node, references}

-- the references as they lie in it
abbrev pub tree_of : Link → Tree
tree_of Empty = Leaf
tree_of (Full h) = h.value

-- the references of a heap, if there is one
abbrev pub items_of : Link → List ℕ
items_of l = references (tree_of l)
