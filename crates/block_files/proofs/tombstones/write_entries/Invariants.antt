use Rattle.std.proofs.Common.{◌≡◌, take}
use Rattle.block_files.specs.Tombstones.{entries_text}
use Rattle.block_files.proofs.tombstones.write_entries.Given as goal

abbrev pub invariant-loop-tombstone : goal.invariant-loop-tombstone
invariant-loop-tombstone l = l.entries.items ≡ entries_text (take l.tombstone-index l.tombstones)
