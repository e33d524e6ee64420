-- Words of private functions: tests of rows.
use Rattle.std.specs.Prelude.{Bool, true, ◌&&◌, List, [], ◌∷◌, int_lt}
use Rattle.std.specs.Ordering.{is_lt}
use Rattle.wal_record.specs.Labels.{compare_labels}
use Rattle.index_text.specs.declared.row.ChunkMeta.{ChunkMeta}
use Rattle.index_text.specs.declared.row.IndexRow.{IndexRow}

-- the test holds of each two neighbours
abbrev pub chain_test : {X : Type 0} → (X → X → Bool) → List X → Bool
chain_test r [] = true
chain_test r (x ∷ []) = true
chain_test r (x ∷ y ∷ more) = r x y && chain_test r (y ∷ more)

-- the first ends before the second begins
abbrev pub ends_before : ChunkMeta → ChunkMeta → Bool
ends_before a b = int_lt a.max_time b.min_time

-- the labels of the first come before those of the second
abbrev pub comes_before : IndexRow → IndexRow → Bool
comes_before a b = is_lt (compare_labels a.labels b.labels)
