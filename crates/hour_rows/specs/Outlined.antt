-- Words of private functions and of proofs: the series in a slot and its outline.
use Rattle.std.specs.Prelude.{◌==◌, ℕ, ℤ, Option, None, Some, All, length, map, if◌then◌else◌}
use Rattle.wal_record.specs.Labels.{Labels}
use Rattle.head_column.specs.Chunks.{IsFit}
use Rattle.head_column.specs.Histories.{History}
use Rattle.head_column.specs.Runs.{AreApart}
use Rattle.head_column.specs.Samples.{Rises}
use Rattle.head_series.specs.Table.{labels_at}
use Rattle.head_core.specs.Content.{Content}
use Rattle.head_core.specs.Heads.{history_at}
use Rattle.block_files.specs.declared.encoding.Encoding.{Encoding}
use Rattle.block_files.specs.Places.{span_of}
use Rattle.block_read.specs.Blocks.{chunks_in}
use Rattle.hour_rows.specs.declared.outlines.RowOutline.{RowOutline}
use Rattle.hour_rows.specs.Clipping.{samples_in, runs_in}

-- the series in a slot
abbrev pub series_at : Content → ℕ → Labels × History
series_at c slot = (labels_at c.table slot, history_at c slot)

-- the outline of the series in a slot; it can have no chunks
abbrev pub outline_of : Encoding → ℤ → Content → ℕ → RowOutline
outline_of e k c slot = record {
  slot = slot;
  labels = labels_at c.table slot;
  chunks = map span_of (chunks_in e (samples_in k (history_at c slot).samples));
  hidden = runs_in k (history_at c slot).hidden;
}

-- the outline of the series in a slot, if it has chunks
abbrev pub outline_at : Encoding → ℤ → Content → ℕ → Option RowOutline
outline_at e k c slot = if length (chunks_in e (samples_in k (history_at c slot).samples)) == 0 then None else Some (outline_of e k c slot)

-- The history of every series has samples that rise in time and runs with gaps between them.
pub record IsHistory (h : History) : Type 0 where
  pub rises : Rises h.samples
  pub fit : All IsFit h.samples
  pub apart : AreApart h.hidden
