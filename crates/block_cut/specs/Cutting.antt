-- Words of private functions and of proofs: the steps from a head to a block.
use Rattle.std.specs.Prelude.{◌≡◌, ◌<◌, ℕ, ℤ, Bool, false, List, Option, None, Some, All, Contains, IsTrue, int_lt, length, map}
use Rattle.std.specs.List.{zip, sum_by}
use Rattle.std.specs.declared.cmp.Ordering.TheVariants.{Less}
use Rattle.wal_record.specs.Labels.{Labels, compare_labels}
use Rattle.head_column.specs.declared.chunk.Chunk.{Chunk}
use Rattle.head_column.specs.declared.items.Run.{Run}
use Rattle.head_column.specs.Samples.{Sample}
use Rattle.head_column.specs.Hours.{IsEdge, is_in_hour}
use Rattle.head_core.specs.Content.{Content}
use Rattle.head_core.specs.Heads.{history_at}
use Rattle.index_text.specs.declared.row.ChunkMeta.{ChunkMeta}
use Rattle.index_text.specs.declared.row.IndexRow.{IndexRow}
use Rattle.index_text.specs.Rows.{IsChain}
use Rattle.block_files.specs.declared.encoding.Encoding.{Encoding}
use Rattle.block_files.specs.declared.tombstones.Tombstone.{Tombstone}
use Rattle.block_files.specs.declared.places.ChunkSpan.{ChunkSpan}
use Rattle.block_files.specs.Files.{references, texts}
use Rattle.block_files.specs.Places.{span_of}
use Rattle.block_read.specs.declared.rows.BlockRow.{BlockRow}
use Rattle.hour_rows.specs.declared.outlines.RowOutline.{RowOutline}
use Rattle.block_cut.specs.declared.planning.PlannedSeries.{PlannedSeries}
use Rattle.block_read.specs.Blocks.{IsRowOf, chunks_of_rows, file_limit, hour_last, meta_of, samples_of_rows}

-- rows of the hour: at least one, in the order of label sets
pub record AreRowsOf (k : ℤ) (rows : List BlockRow) : Type 0 where
  pub some : 0 < length rows
  pub each : All (IsRowOf k) rows
  pub ascending : IsChain (λ (a b : BlockRow). compare_labels a.labels b.labels ≡ Less) rows

-- the entry of a chunk in the index, from what is known of it without its data
abbrev pub meta_from : ChunkSpan × ℕ → ChunkMeta
meta_from x = record { min_time = x.0.min_time; max_time = x.0.max_time; reference = x.1 }

-- the entries of chunks, with these references
abbrev pub named_spans : List ChunkSpan × List ℕ → List ChunkMeta
named_spans x = map meta_from (zip x.0 x.1)

-- the chunks of rows without their data
abbrev pub spans_in : Encoding → List BlockRow → List (List ChunkSpan)
spans_in e rows = map (map span_of) (chunks_of_rows e (samples_of_rows rows))

-- the references of the chunks of rows
abbrev pub references_in : Encoding → List BlockRow → List (List ℕ)
references_in e rows = references e file_limit (texts (chunks_of_rows e (samples_of_rows rows)))

-- the labels, the chunks without their data, and the hidden runs of rows
pub record AreParts (e : Encoding) (rows : List BlockRow) (labels : List Labels) (spans : List (List ChunkSpan)) (hidden : List (List Run)) : Type 0 where
  pub labels_are : labels ≡ map (λ (r : BlockRow). r.labels) rows
  pub spans_are : spans ≡ spans_in e rows
  pub hidden_are : hidden ≡ map (λ (r : BlockRow). r.hidden) rows

-- outlines with the parts of rows
abbrev pub HaveParts : Encoding → List BlockRow → List RowOutline → Type 0
HaveParts e rows outlines = AreParts e rows (map (λ (o : RowOutline). o.labels) outlines) (map (λ (o : RowOutline). o.chunks) outlines) (map (λ (o : RowOutline). o.hidden) outlines)

-- these are the outlines of rows of the hour
pub record AreOutlines (e : Encoding) (k : ℤ) (outlines : List RowOutline) : Type 0 where
  pub those : List BlockRow
  pub of_hour : AreRowsOf k those
  pub parts : HaveParts e those outlines

-- a series as it is planned, by the outline of its row
abbrev pub planned : RowOutline → PlannedSeries
planned outline = record { slot = outline.slot; chunks = length outline.chunks }

-- the entries of chunks in the index, with these references
abbrev pub named : List Chunk × List ℕ → List ChunkMeta
named x = map meta_of (zip x.0 x.1)

-- the entries of the chunks of each row in the index
abbrev pub metas_in : Encoding → List (List Chunk) → List (List ChunkMeta)
metas_in e chunks = map named (zip chunks (references e file_limit (texts chunks)))

-- the tombstones of a series with this id and these runs
abbrev pub stones : ℕ × List Run → List Tombstone
stones x = map (λ (r : Run). record { series = x.0; run = r }) x.1

-- the rows of an index from their labels and the entries of their chunks
abbrev pub index_rows_of : List Labels → List (List ChunkMeta) → List IndexRow
index_rows_of labels metas = map (λ (x : Labels × List ChunkMeta). record { labels = x.0; chunks = x.1 }) (zip labels metas)

-- the number of samples in chunks
abbrev pub chunk_count : List ChunkSpan → ℕ
chunk_count chunks = sum_by (λ (c : ChunkSpan). c.count) chunks

-- the number of samples in the chunks of rows
abbrev pub sample_count : List (List ChunkSpan) → ℕ
sample_count rows = sum_by chunk_count rows

-- One of these samples is in the hour, which is no edge.
pub record IsSampledIn (k : ℤ) (samples : List Sample) : Type 0 where
  pub whole : IsEdge k → ⊥
  pub sample : Sample
  pub is_sample : Contains samples sample
  pub within : IsTrue (is_in_hour k sample.time)

-- A sample of one of the first n series is in the hour, which is no edge.
pub record IsSampledBelow (n : ℕ) (k : ℤ) (c : Content) : Type 0 where
  pub slot : ℕ
  pub below : slot < n
  pub some : IsSampledIn k (history_at c slot).samples

-- whether this time is past the hour
abbrev pub is_past : Option ℤ → ℤ → Bool
is_past None k = false
is_past (Some t) k = int_lt (hour_last k) t

-- whether the hour is full
abbrev pub is_full_in : Content → ℤ → Bool
is_full_in c k = is_past c.max_time k
