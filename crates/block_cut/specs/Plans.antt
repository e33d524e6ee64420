-- A block whose chunk files are still to be made.
use Rattle.std.specs.Prelude.{◌≡◌, ◌<◌, ℕ, ℤ, List, [], All, length, map, take, drop, ◌++◌, Bool, if◌then◌else◌}
use Rattle.std.specs.List.{flat_map}
use Rattle.hw_bytes.specs.Sums.{Text}
use Rattle.head_core.specs.Content.{Content}
use Rattle.head_core.specs.Heads.{history_at}
use Rattle.block_files.specs.declared.encoding.Encoding.{Encoding}
use Rattle.block_files.specs.Files.{chunk_element, file_head, row_texts}
use Rattle.block_files.specs.Places.{file_at}
use Rattle.block_read.specs.declared.block.Block.{Block}
use Rattle.block_read.specs.declared.rows.BlockRows.{BlockRows}
use Rattle.block_read.specs.Blocks.{IsBlockOf, chunks_in}
use Rattle.hour_rows.specs.Clipping.{samples_in}
use Rattle.block_cut.specs.declared.planning.BlockPlan.{BlockPlan}
use Rattle.block_cut.specs.declared.planning.PlannedSeries.{PlannedSeries}

-- the data of the chunks of the series in a slot, in an hour
abbrev pub data_at : Encoding → ℤ → Content → ℕ → List Text
data_at e k c slot = row_texts (chunks_in e (samples_in k (history_at c slot).samples))

-- the data of all chunks of these series
abbrev pub data_of : Encoding → ℤ → Content → List PlannedSeries → List Text
data_of e k c series = flat_map (λ (s : PlannedSeries). data_at e k c s.slot) series

-- it is a series of the head, with so many chunks in the hour
pub record IsPlanned (e : Encoding) (k : ℤ) (c : Content) (s : PlannedSeries) : Type 0 where
  pub slot : s.slot < length c.table.series
  pub chunks : s.chunks ≡ length (data_at e k c s.slot)

-- The plan has the parts of the block that are no chunk files, and says what chunks each chunk file has.
pub record IsPlanOf (e : Encoding) (k : ℤ) (c : Content) (plan : BlockPlan) (block : Block) : Type 0 where
  pub index : plan.index ≡ block.index
  pub tombstones : plan.tombstones ≡ block.tombstones
  pub meta : plan.meta ≡ block.meta
  pub series : All (IsPlanned e k c) plan.series
  pub files : map (file_at e (data_of e k c plan.series)) plan.files ≡ block.chunks

-- it is the plan of the block of these rows of a head
pub record IsPlan (e : Encoding) (b : BlockRows) (c : Content) (plan : BlockPlan) : Type 0 where
  pub block : Block
  pub is_block : IsBlockOf e block b
  pub is_plan : IsPlanOf e b.hour c plan block

-- The value of `ChunkFile`: the bytes that are still to come, and in how many pieces.
pub record ToCome : Type 0 where
  pub text : Text
  pub pieces : ℕ

-- what is to come of a chunk file: the header, unless it came, and of the chunks of these series so many, behind those that are skipped
abbrev pub to_come : Encoding → ℤ → Content → Bool → List PlannedSeries → ℕ → ℕ → Text
to_come e k c is_begun series skip left = (if is_begun then [] else file_head) ++ flat_map (chunk_element e) (take left (drop skip (data_of e k c series)))
