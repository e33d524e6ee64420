-- Words of private functions and of proofs: the parts of a block while it is read.
use Rattle.std.specs.Prelude.{◌≡◌, ℕ, ℤ, pos, ◌+ℤ◌, All, IsTrue, ◌<◌, ◌%◌, ◌<ℤ◌, List, [], ◌∷◌, length, map}
use Rattle.std.specs.List.{AllByRecursion, flat_map, zip}
use Rattle.head_column.specs.Samples.{Sample}
use Rattle.head_column.specs.Chunks.{chunk_samples, first_time, last_time}
use Rattle.hw_bytes.specs.Sums.{Text}
use Rattle.index_text.specs.declared.row.ChunkMeta.{ChunkMeta}
use Rattle.head_column.specs.Hours.{IsEdge, hour_start, is_in_hour}
use Rattle.block_files.specs.declared.encoding.Encoding.{Encoding}
use Rattle.block_files.specs.declared.meta.Meta.{Meta}
use Rattle.block_files.specs.Files.{StandsAt, chunk_files, row_references, row_texts}
use Rattle.block_files.specs.Meta.{meta_text}
use Rattle.block_files.specs.Ulids.{IsUlid}
use Rattle.head_column.specs.declared.items.Run.{Run}
use Rattle.head_column.specs.Runs.{AreApart}
use Rattle.block_files.specs.declared.tombstones.Tombstone.{Tombstone}
use Rattle.block_files.specs.Tombstones.{tombstones_text}
use Rattle.block_read.specs.Blocks.{FitsRun, IsWithin, chunk_count, chunks_in, data_in, file_limit, meta_of, tombstones_of}

-- the chunks of these lists of samples are at the references of these entries
abbrev pub AreThere : Encoding → List Text → List ChunkMeta → List (List Sample) → Type 0
AreThere e files [] [] = Unit {0}
AreThere e files [] (p ∷ ps) = ⊥
AreThere e files (m ∷ ms) [] = ⊥
AreThere e files (m ∷ ms) (p ∷ ps) = StandsAt e files m.reference (data_in e p) × AreThere e files ms ps

-- a chunk with the samples `part` can follow the samples `before`, which fill chunks and have earlier times
pub record MayFollow (before part : List Sample) : Type 0 where
  pub full : length before % chunk_samples ≡ 0
  pub later : 0 < length before → last_time before <ℤ first_time part

-- the entries of the chunks of a row in the index, after the rows `before`
abbrev pub row_metas : Encoding → List (List Text) → List Sample → List ChunkMeta
row_metas e before samples = map meta_of (zip (chunks_in e samples) (row_references e file_limit before (row_texts (chunks_in e samples))))

-- the chunk files of rows with these data of chunks
abbrev pub files_with : Encoding → List (List Text) → List Text
files_with e rows = chunk_files e file_limit (flat_map (λ r. r) rows)

-- the tombstones of a series with these runs
abbrev pub entries_of : ℕ → List Run → List Tombstone
entries_of id runs = map (λ (r : Run). record { series = id; run = r }) runs

-- the first tombstone, if there is one, is of another series
abbrev pub BeginsOther : ℕ → List Tombstone → Type 0
BeginsOther id [] = Unit {0}
BeginsOther id (t ∷ ts) = t.series ≡ id → ⊥

-- The tombstones are the text of these runs, a list for each id. No run is empty, and those of an id ascend with gaps between them.
pub record HaveRuns (tombstones : Text) (ids : List ℕ) (hidden : List (List Run)) : Type 0 where
  pub one_each : length hidden ≡ length ids
  pub apart : AllByRecursion AreApart hidden
  pub fit : AllByRecursion (All FitsRun) hidden
  pub text : tombstones ≡ tombstones_text (tombstones_of ids hidden)

-- the contents of meta.json for rows with these samples
abbrev pub summary : Text → ℤ → List (List Sample) → Meta
summary ulid hour samples = record {
  ulid = ulid;
  min_time = hour_start hour;
  max_time = hour_start (hour +ℤ pos 1);
  samples = length (flat_map (λ s. s) samples);
  series = length samples;
  chunks = chunk_count samples;
}

-- all samples are in the hour
abbrev pub AreOfHour : ℤ → List Sample → Type 0
AreOfHour hour samples = All (λ (s : Sample). IsTrue (is_in_hour hour s.time)) samples

-- all runs are not empty and lie in the hour
abbrev pub AreWithin : ℤ → List Run → Type 0
AreWithin hour runs = All (IsWithin hour) runs

-- The text is the meta.json of a block with this name and this hour, which is no edge and has all samples and runs.
pub record HasMeta (text : Text) (samples : List (List Sample)) (hidden : List (List Run)) (ulid : Text) (hour : ℤ) : Type 0 where
  pub is_ulid : IsUlid ulid
  pub whole : IsEdge hour → ⊥
  pub within : AllByRecursion (AreOfHour hour) samples
  pub hidden_within : AllByRecursion (AreWithin hour) hidden
  pub described : text ≡ meta_text (summary ulid hour samples)
