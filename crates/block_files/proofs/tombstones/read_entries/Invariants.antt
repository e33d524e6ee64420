use Rattle.std.proofs.Common.{◌≡◌, List, length}
use Rattle.std.specs.List.{All}
use Rattle.block_files.specs.declared.tombstones.Tombstone.{Tombstone}
use Rattle.block_files.specs.Tombstones.{IsFit, entries_text}
use Rattle.block_files.proofs.TombstoneLaws.{AreLeft}
use Rattle.block_files.proofs.tombstones.read_entries.Given as goal

abbrev pub invariant-loop-rest : goal.invariant-loop-rest
invariant-loop-rest l = All IsFit l.tombstones.items × ((all : List Tombstone) → All IsFit all → l.bytes ≡ entries_text all → AreLeft l.rest all l.tombstones.items)

abbrev pub decreases-loop-rest : goal.decreases-loop-rest
decreases-loop-rest l = length l.rest
