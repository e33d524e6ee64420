-- How far chunks are placed, while they are.
use Rattle.std.specs.Prelude.{◌≡◌, ℕ, ◌+◌, ◌<◌, ◌≤◌, List, [], ◌∷◌, ◌++◌, length, map, All}
use Rattle.hw_bytes.specs.Sums.{Text}
use Rattle.block_files.specs.declared.encoding.Encoding.{Encoding}
use Rattle.block_files.specs.declared.places.FileSpan.{FileSpan}
use Rattle.block_files.specs.Files.{chunk_element, chunk_files}
use Rattle.block_files.specs.Places.{file_at}

-- The value of `Placing`: the spans of the full files, the span of the last one, and its length, 0 if no file has begun.
pub record Layout : Type 0 where
  pub full : List FileSpan
  pub last : FileSpan
  pub len : ℕ

-- the span ends within so many chunks
abbrev pub EndsWithin : ℕ → FileSpan → Type 0
EndsWithin count span = span.first + span.count ≤ count

-- The chunks with these data are placed so.
pub record Stands (e : Encoding) (limit : ℕ) (all : List Text) (now : Layout) : Type 0 where
  pub none : now.len ≡ 0 → (all ≡ []) × (now.full ≡ [])
  pub files : 0 < now.len → chunk_files e limit all ≡ map (file_at e all) now.full ++ file_at e all now.last ∷ []
  pub len : 0 < now.len → length (file_at e all now.last) ≡ now.len
  pub ends : now.last.first + now.last.count ≡ length all
  pub within : All (EndsWithin (length all)) now.full

-- These chunks are placed so, and the next one belongs to the last file.
pub record IsOpen (e : Encoding) (limit : ℕ) (all : List Text) (body : Text) (now : Layout) : Type 0 where
  pub files : chunk_files e limit (all ++ body ∷ []) ≡ map (file_at e all) now.full ++ (file_at e all now.last ++ chunk_element e body) ∷ []
  pub len : length (file_at e all now.last) ≡ now.len
  pub ends : now.last.first + now.last.count ≡ length all
  pub within : All (EndsWithin (length all)) now.full
