use Rattle.std.proofs.Common.{◌≡◌, take}
use Rattle.block_read.specs.Reading.{entries_of}
use Rattle.block_read.proofs.hidden.front_runs.Given as goal

abbrev pub invariant-loop-i : goal.invariant-loop-i
invariant-loop-i l = take l.i l.tombstones ≡ entries_of l.id l.runs.items
