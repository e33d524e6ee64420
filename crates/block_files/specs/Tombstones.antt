-- Tombstones: the hidden times of the series of a block.
use Rattle.std.specs.Prelude.{◌<◌, ◌^◌, List, [], ◌∷◌, ◌++◌, FitsSigned}
use Rattle.std.specs.List.{flat_map}
use Rattle.std.specs.Int.{w64}
use Rattle.hw_bytes.specs.Writing.{uvarint, varint}
use Rattle.hw_bytes.specs.Sums.{Text, sum_text}
use Rattle.block_files.specs.declared.tombstones.Tombstone.{Tombstone}

-- an entry: the id of the series as a uvarint, the first and the last hidden time as varints
abbrev pub entry_text : Tombstone → Text
entry_text t = uvarint t.series ++ varint t.run.min_time ++ varint t.run.max_time

-- the entries, one after another
abbrev pub entries_text : List Tombstone → Text
entries_text ts = flat_map entry_text ts

-- the header: the magic number and the version
abbrev pub tombstones_head : Text
tombstones_head = 0x01 ∷ 0x30 ∷ 0xBA ∷ 0x30 ∷ 1 ∷ []

-- The text of tombstones: the header, the entries, and the checksum of all entries.
unfoldable pub tombstones_text : List Tombstone → Text
tombstones_text ts = tombstones_head ++ entries_text ts ++ sum_text (entries_text ts)

-- the numbers of an entry have 64 bits
pub record IsFit (t : Tombstone) : Type 0 where
  pub series : t.series < 2 ^ 64
  pub min_time : FitsSigned w64 t.run.min_time
  pub max_time : FitsSigned w64 t.run.max_time
