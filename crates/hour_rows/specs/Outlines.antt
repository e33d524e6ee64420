-- The rows of an hour without the data of their chunks.
use Rattle.std.specs.Prelude.{◌≡◌, ◌<◌, ℤ, length, map}
use Rattle.head_core.specs.Content.{Content}
use Rattle.head_core.specs.Heads.{history_at}
use Rattle.block_files.specs.declared.encoding.Encoding.{Encoding}
use Rattle.block_files.specs.Places.{span_of}
use Rattle.block_read.specs.declared.rows.BlockRow.{BlockRow}
use Rattle.block_read.specs.Blocks.{chunks_in}
use Rattle.hour_rows.specs.declared.outlines.RowOutline.{RowOutline}
use Rattle.hour_rows.specs.Clipping.{samples_in}

-- This is the outline of a row: its series has this slot in the head, and its chunks these times, counts and lengths.
pub record IsOutlineOf (e : Encoding) (k : ℤ) (c : Content) (outline : RowOutline) (row : BlockRow) : Type 0 where
  pub slot : outline.slot < length c.table.series
  pub samples : samples_in k (history_at c outline.slot).samples ≡ row.samples
  pub labels : outline.labels ≡ row.labels
  pub chunks : outline.chunks ≡ map span_of (chunks_in e row.samples)
  pub hidden : outline.hidden ≡ row.hidden
