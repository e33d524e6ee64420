-- The blocks of a log.
use Rattle.std.specs.Prelude.{◌≡◌, ℤ, List, Option}
use Rattle.wal_log.specs.Inputs.{Files}
use Rattle.wal_log.specs.declared.reading.Damage.{Damage}
use Rattle.wal_log.specs.declared.reading.Placed.{Placed}
use Rattle.wal_log.specs.Log.{IsReading, contents}
use Rattle.head_resolver.specs.Taken.{taken_of}
use Rattle.head_core.specs.Content.{Content, IsContentOf}
use Rattle.hw_bytes.specs.Sums.{Text}
use Rattle.block_files.specs.declared.encoding.Encoding.{Encoding}
use Rattle.block_read.specs.declared.block.Block.{Block}
use Rattle.hour_rows.specs.Rows.{rows_of}
use Rattle.block_read.specs.Blocks.{IsBlockOf}

-- This is the block of an hour of a log, with its chunks in this encoding and with this name: that of the content of the records of the log up
-- to its first damage, read with the least valid time m.
pub record IsBlockOfLog (e : Encoding) (log : Files) (m hour : ℤ) (ulid : Text) (block : Block) : Type 0 where
  pub records : List Placed
  pub damage : Option Damage
  pub content : Content
  pub reading : IsReading log records damage
  pub is_content : IsContentOf (taken_of m (contents records)) content
  pub min_valid : content.min_valid ≡ m
  pub is_block : IsBlockOf e block (record { ulid = ulid; hour = hour; rows = rows_of hour content })
