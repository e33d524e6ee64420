-- The rows that have an index.
use Rattle.std.specs.Prelude.{◌≡◌, ℕ, ◌^◌, ◌<◌, ◌<ℤ◌, ◌≤ℤ◌, List, [], ◌∷◌, length}
use Rattle.std.specs.List.{AllByRecursion}
use Rattle.std.specs.Int.{w64}
use Rattle.std.specs.Int.RustNames.{FitsSigned}
use Rattle.std.specs.declared.cmp.Ordering.TheVariants.{Less}
use Rattle.wal_record.specs.Labels.{IsLabelSet, compare_labels}
use Rattle.index_text.specs.declared.row.ChunkMeta.{ChunkMeta}
use Rattle.index_text.specs.declared.row.IndexRow.{IndexRow}
use Rattle.index_text.specs.Layout.{Text}
use Rattle.index_text.specs.Index.{
  symbols,
  names,
  pairs,
  symbols_body,
  series_body,
  series_ids,
  label_index_body,
  values_of,
  postings_body,
  ids_with,
  label_table_body,
  postings_table_body,
  label_entries,
  postings_entries,
  index_text,
}

-- P holds of each two neighbours.
abbrev pub IsChain : {X : Type 0} → (X → X → Type 0) → List X → Type 0
IsChain P [] = Unit {0}
IsChain P (x ∷ []) = Unit {0}
IsChain P (x ∷ y ∷ more) = P x y × IsChain P (y ∷ more)

-- the numbers of a chunk have 64 bits
pub record FitsChunk (c : ChunkMeta) : Type 0 where
  pub min_time : FitsSigned w64 c.min_time
  pub max_time : FitsSigned w64 c.max_time
  pub reference : c.reference < 2 ^ 64

-- A row has a label set and at least one chunk. No chunk ends before it begins, and each ends before the next one begins.
pub record IsRow (r : IndexRow) : Type 0 where
  pub labels : IsLabelSet r.labels
  pub some : 0 < length r.chunks
  pub fit : AllByRecursion FitsChunk r.chunks
  pub forward : AllByRecursion (λ (c : ChunkMeta). c.min_time ≤ℤ c.max_time) r.chunks
  pub apart : IsChain (λ (a b : ChunkMeta). a.max_time <ℤ b.min_time) r.chunks

-- The writer's condition on rows: at least one, each valid, and label sets that ascend strictly.
pub record AreRows (rows : List IndexRow) : Type 0 where
  pub some : 0 < length rows
  pub each : AllByRecursion IsRow rows
  pub ascending : IsChain (λ (a b : IndexRow). compare_labels a.labels b.labels ≡ Less) rows

-- the number fits in four bytes
abbrev pub IsSmall : ℕ → Type 0
IsSmall n = n < 2 ^ 32

-- the size of each element fits in four bytes
abbrev pub AreSmall : {X : Type 0} → (X → ℕ) → List X → Type 0
AreSmall size xs = AllByRecursion (λ x. IsSmall (size x)) xs

-- Each length, symbol reference, series id and count is below 2^32. (A count or a reference is below the length of the element that has it,
-- so symbols, values, ids and entries need no fields here.)
pub record FitsIndex (rows : List IndexRow) : Type 0 where
  pub symbols_fit : IsSmall (length (symbols_body (symbols rows)))
  pub series_fit : AreSmall (λ r. length (series_body (symbols rows) r)) rows
  pub ids_fit : AreSmall (λ (id : ℕ). id) (series_ids rows)
  pub label_indices_fit : AreSmall (λ name. length (label_index_body (symbols rows) (values_of (pairs rows) name))) (names rows)
  pub everything_fits : IsSmall (length (postings_body (series_ids rows)))
  pub postings_fit : AreSmall (λ p. length (postings_body (ids_with rows p))) (pairs rows)
  pub label_table_fits : IsSmall (length (label_table_body (label_entries rows)))
  pub postings_table_fits : IsSmall (length (postings_table_body (postings_entries rows)))

-- The bytes are the index of these rows.
pub record IsIndex (bytes : Text) (rows : List IndexRow) : Type 0 where
  pub rows_are : AreRows rows
  pub fits : FitsIndex rows
  pub text : bytes ≡ index_text rows
