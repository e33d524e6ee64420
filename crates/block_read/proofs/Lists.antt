-- Lists compared element by element.
use Rattle.std.proofs.Common.{◌≡◌, ℕ, zero, suc, ◌<◌, List, [], ◌∷◌, length, map, get_or, refl, sym, ap, ◌∙◌, arith}
use Rattle.std.specs.List.{zip}
use Rattle.head_column.specs.declared.chunk.Chunk.{Chunk}
use Rattle.index_text.specs.declared.row.ChunkMeta.{ChunkMeta}
use Rattle.block_read.specs.Blocks.{meta_of}

pub same_lists : {X : Type 0} (d : X) (xs ys : List X) → length xs ≡ length ys → ((k : ℕ) → k < length xs → get_or xs k d ≡ get_or ys k d) → xs ≡ ys
same_lists d [] [] n h = refl
same_lists d [] (y ∷ ys) n h = absurd (omega (arith, n))
same_lists d (x ∷ xs) [] n h = absurd (omega (arith, n))
same_lists d (x ∷ xs) (y ∷ ys) n h = ap (λ z. z ∷ xs) (h 0 (omega arith)) ∙ ap (λ zs. y ∷ zs) (same_lists d xs ys (omega (arith, n)) (λ k lt. h (suc k) (omega (arith, lt))))

pub named_length : (cs : List Chunk) (rs : List ℕ) → length rs ≡ length cs → length (map meta_of (zip cs rs)) ≡ length cs
named_length [] rs n = refl
named_length (c ∷ cs) [] n = absurd (omega (arith, n))
named_length (c ∷ cs) (r ∷ rs) n = omega (arith, named_length cs rs (omega (arith, n)))

pub named_at : (cs : List Chunk) (rs : List ℕ) (k : ℕ) (m : ChunkMeta) (c : Chunk) (r : ℕ) → length rs ≡ length cs → k < length cs → get_or (map meta_of (zip cs rs)) k m ≡ meta_of (get_or cs k c, get_or rs k r)
named_at [] rs k m c r n lt = absurd (omega (arith, lt))
named_at (x ∷ cs) [] k m c r n lt = absurd (omega (arith, n))
named_at (x ∷ cs) (y ∷ rs) zero m c r n lt = refl
named_at (x ∷ cs) (y ∷ rs) (suc k) m c r n lt = named_at cs rs k m c r (omega (arith, n)) (omega (arith, lt))

pub named_here : (cs : List Chunk) (rs : List ℕ) (k : ℕ) (m : ChunkMeta) (c : Chunk) → length rs ≡ length cs → k < length cs → c ≡ get_or cs k c → get_or (map meta_of (zip cs rs)) k m ≡ meta_of (c, get_or rs k 0)
named_here cs rs k m c n lt is = named_at cs rs k m c 0 n lt ∙ ap (λ (x : Chunk). meta_of (x, get_or rs k 0)) (sym is)
