-- How proofs tell two trees of references apart: by a list from which the tree is had back.
use Rattle.std.specs.Prelude.{◌≡◌, ℕ, List, [], ◌∷◌, ◌++◌, Option, None, Some, refl}
use Rattle.std.specs.Coded.{Coded, code_by, coded_list, coded_option, coded_ℕ}
use Rattle.std.proofs.Common.{ap, sym, ◌∙◌}
use Rattle.std.proofs.lemmas.List.{append_assoc, append-nil}
use Rattle.series_references.specs.Heap.{Tree, Leaf, Node}

-- the list: of the two heaps below a reference, then the reference; and nothing stands for an empty heap
abbrev pub listed : Tree → List (Option ℕ)
listed Leaf = None ∷ []
listed (Node r even odd) = listed even ++ (listed odd ++ (Some r ∷ []))

-- the last two trees that were built, under a reference
abbrev pub joined : ℕ → List Tree → List Tree
joined r [] = []
joined r (odd ∷ []) = []
joined r (odd ∷ even ∷ more) = Node r even odd ∷ more

-- the trees that are built by the list, the last first
abbrev pub built : List (Option ℕ) → List Tree → List Tree
built [] trees = trees
built (None ∷ more) trees = built more (Leaf ∷ trees)
built (Some r ∷ more) trees = built more (joined r trees)

abbrev pub first : List Tree → Tree
first [] = Leaf
first (tree ∷ more) = tree

pub built_back : (t : Tree) (more : List (Option ℕ)) (trees : List Tree) → built (listed t ++ more) trees ≡ built more (t ∷ trees)
built_back Leaf more trees = refl
built_back (Node r even odd) more trees = whole ∙ built_back even ((listed odd ++ (Some r ∷ [])) ++ more) trees ∙ ap (λ l. built l (even ∷ trees)) (append_assoc (listed odd) (Some r ∷ []) more) ∙ built_back odd (Some r ∷ more) (even ∷ trees) where
  whole : built (listed (Node r even odd) ++ more) trees ≡ built (listed even ++ ((listed odd ++ (Some r ∷ [])) ++ more)) trees
  whole = ap (λ l. built l trees) (append_assoc (listed even) (listed odd ++ (Some r ∷ [])) more)

pub itself : (t : Tree) → first (built (listed t) []) ≡ t
itself t = ap (λ l. first (built l [])) (sym (append-nil (listed t))) ∙ ap first (built_back t [] [])

abbrev pub tree_code : Coded Tree
tree_code = code_by (List (Option ℕ)) (coded_list (coded_option coded_ℕ)) listed (λ l. first (built l [])) itself
