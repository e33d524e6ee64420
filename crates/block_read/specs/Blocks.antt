-- The parts of a block.
use Rattle.std.specs.Prelude.{◌≡◌, ℕ, ℤ, pos, ◌+ℤ◌, ◌-ℤ◌, ◌≤ℤ◌, ◌≤◌, ◌<◌, ◌^◌, List, length, map, All, IsTrue, FitsSigned}
use Rattle.std.specs.Int.{w64}
use Rattle.std.specs.List.{flat_map, zip, AllByRecursion}
use Rattle.std.specs.declared.cmp.Ordering.TheVariants.{Less}
use Rattle.wal_record.specs.Labels.{IsLabelSet, compare_labels}
use Rattle.head_column.specs.Samples.{Sample}
use Rattle.head_column.specs.declared.items.Run.{Run}
use Rattle.head_column.specs.declared.chunk.Chunk.{Chunk}
use Rattle.head_column.specs.Chunks.{IsFit, chunk_samples, chunk_text, first_time, last_time, parts}
use Rattle.head_column.specs.Hours.{IsEdge, hour_start, is_in_hour}
use Rattle.head_column.specs.Runs.{AreApart}
use Rattle.head_column.specs.Samples.{Rises}
use Rattle.hw_bytes.specs.Sums.{Text}
use Rattle.index_text.specs.declared.row.ChunkMeta.{ChunkMeta}
use Rattle.index_text.specs.declared.row.IndexRow.{IndexRow}
use Rattle.index_text.specs.Index.{index_text, series_ids}
use Rattle.index_text.specs.Rows.{FitsIndex, IsChain}
use Rattle.xor_chunk.specs.Chunks.{xor_text}
use Rattle.block_files.specs.declared.encoding.Encoding.{Encoding}
use Rattle.block_files.specs.declared.encoding.Encoding.TheVariants.{Raw, Xor}
use Rattle.block_files.specs.declared.meta.Meta.{Meta}
use Rattle.block_files.specs.declared.tombstones.Tombstone.{Tombstone}
use Rattle.block_files.specs.Files.{all_texts, chunk_files, references, texts}
use Rattle.block_files.specs.Meta.{meta_text}
use Rattle.block_files.specs.Tombstones.{tombstones_text}
use Rattle.block_files.specs.Ulids.{IsUlid}
use Rattle.block_read.specs.declared.block.Block.{Block}
use Rattle.block_read.specs.declared.rows.BlockRow.{BlockRow}
use Rattle.block_read.specs.declared.rows.BlockRows.{BlockRows}

-- the last time of hour k
abbrev pub hour_last : ℤ → ℤ
hour_last k = hour_start (k +ℤ pos 1) -ℤ pos 1

-- the limit of the length of a chunk file in bytes
abbrev pub file_limit : ℕ
file_limit = 536870912

-- the data of the chunk of some samples
abbrev pub data_in : Encoding → List Sample → Text
data_in Raw samples = chunk_text samples
data_in Xor samples = xor_text samples

-- the chunk of some samples
abbrev pub chunk_in : Encoding → List Sample → Chunk
chunk_in e samples = record { min_time = first_time samples; max_time = last_time samples; count = length samples; text = data_in e samples }

-- the chunks of some samples: `chunk_samples` to a chunk, perhaps fewer in the last
abbrev pub chunks_in : Encoding → List Sample → List Chunk
chunks_in e samples = map (chunk_in e) (parts chunk_samples samples)

-- the chunks of rows with these samples: the samples of each row, cut by 120
abbrev pub chunks_of_rows : Encoding → List (List Sample) → List (List Chunk)
chunks_of_rows e samples = map (chunks_in e) samples

-- the number of chunks of rows with these samples
abbrev pub chunk_count : List (List Sample) → ℕ
chunk_count samples = length (flat_map (parts chunk_samples) samples)

-- the chunk files of rows with these samples
abbrev pub files_of : Encoding → List (List Sample) → List Text
files_of e samples = chunk_files e file_limit (all_texts (chunks_of_rows e samples))

-- the entry of a chunk in the index: its first time, its last time and its reference
abbrev pub meta_of : Chunk × ℕ → ChunkMeta
meta_of x = record { min_time = x.0.min_time; max_time = x.0.max_time; reference = x.1 }

-- the entries of the chunks of each row in the index, with their references in the chunk files
unfoldable pub metas_of : Encoding → List (List Sample) → List (List ChunkMeta)
metas_of e samples =
    map (λ (x : List Chunk × List ℕ). map meta_of (zip x.0 x.1)) (zip (chunks_of_rows e samples) (references e file_limit (texts (chunks_of_rows e samples))))

-- the samples of each row
abbrev pub samples_of_rows : List BlockRow → List (List Sample)
samples_of_rows rows = map (λ (r : BlockRow). r.samples) rows

-- The rows of the index: the labels of each row and the entries of its chunks.
unfoldable pub index_rows : Encoding → List BlockRow → List IndexRow
index_rows e rows = map (λ (x : BlockRow × List ChunkMeta). record { labels = x.0.labels; chunks = x.1 }) (zip rows (metas_of e (samples_of_rows rows)))

-- The tombstones: the hidden runs of each row in order, with the id of its series.
unfoldable pub tombstones_of : List ℕ → List (List Run) → List Tombstone
tombstones_of ids hidden = flat_map (λ (x : ℕ × List Run). map (λ (r : Run). record { series = x.0; run = r }) x.1) (zip ids hidden)

-- The contents of meta.json: the name, the hour, and the numbers of samples, series and chunks.
abbrev pub description : BlockRows → Meta
description b = record {
  ulid = b.ulid;
  min_time = hour_start b.hour;
  max_time = hour_start (b.hour +ℤ pos 1);
  samples = length (flat_map (λ (r : BlockRow). r.samples) b.rows);
  series = length b.rows;
  chunks = chunk_count (samples_of_rows b.rows);
}

-- The parts of the block of rows, with its chunks in this encoding.
unfoldable pub block_text : Encoding → BlockRows → Block
block_text e b = record {
  index = index_text (index_rows e b.rows);
  chunks = files_of e (samples_of_rows b.rows);
  tombstones = tombstones_text (tombstones_of (series_ids (index_rows e b.rows)) (map (λ (r : BlockRow). r.hidden) b.rows));
  meta = meta_text (description b);
}

-- the run is not empty and lies in the hour
pub record IsWithin (k : ℤ) (r : Run) : Type 0 where
  pub some : r.min_time ≤ℤ r.max_time
  pub first : hour_start k ≤ℤ r.min_time
  pub last : r.max_time ≤ℤ hour_last k

-- A row of an hour has a label set, at least one sample, samples of the hour in the order of their times, and hidden runs in the hour with
-- a gap between any two.
pub record IsRowOf (k : ℤ) (row : BlockRow) : Type 0 where
  pub labels : IsLabelSet row.labels
  pub some : 0 < length row.samples
  pub rises : Rises row.samples
  pub fit : All IsFit row.samples
  pub within : All (λ (s : Sample). IsTrue (is_in_hour k s.time)) row.samples
  pub apart : AreApart row.hidden
  pub hidden_within : All (IsWithin k) row.hidden

-- The parts are the block of these rows in this encoding: at least one, of an hour that is no edge, in the order of label sets, within the
-- limits of an index and of 2^32 chunk files.
pub record IsBlockOf (e : Encoding) (block : Block) (b : BlockRows) : Type 0 where
  pub ulid : IsUlid b.ulid
  pub whole : IsEdge b.hour → ⊥
  pub some : 0 < length b.rows
  pub each : AllByRecursion (IsRowOf b.hour) b.rows
  pub ascending : IsChain (λ (a c : BlockRow). compare_labels a.labels c.labels ≡ Less) b.rows
  pub index_fits : FitsIndex (index_rows e b.rows)
  pub few_files : length block.chunks ≤ 2 ^ 32
  pub text : block ≡ block_text e b

-- ---- the parts, one after the other

-- the samples of a series: at least one, in the order of their times
pub record IsColumn (samples : List Sample) : Type 0 where
  pub some : 0 < length samples
  pub rises : Rises samples
  pub fit : All IsFit samples

-- The chunk files are the text of these samples in this encoding, a list for each row of the index, with the references and times in the
-- index.
pub record HasSamples (e : Encoding) (files : List Text) (rows : List IndexRow) (samples : List (List Sample)) : Type 0 where
  pub each : AllByRecursion IsColumn samples
  pub files_are : files ≡ files_of e samples
  pub few_files : length files ≤ 2 ^ 32
  pub named : map (λ (r : IndexRow). r.chunks) rows ≡ metas_of e samples

-- the times of the run have 64 bits
pub record FitsRun (r : Run) : Type 0 where
  pub min_time : FitsSigned w64 r.min_time
  pub max_time : FitsSigned w64 r.max_time

-- The tombstones are the text of these runs, a list for each row of the index. No run is empty, and those of a row ascend with gaps
-- between them.
pub record HasHidden (tombstones : Text) (rows : List IndexRow) (hidden : List (List Run)) : Type 0 where
  pub one_each : length hidden ≡ length rows
  pub apart : AllByRecursion AreApart hidden
  pub fit : AllByRecursion (All FitsRun) hidden
  pub text : tombstones ≡ tombstones_text (tombstones_of (series_ids rows) hidden)
