use Rattle.std.proofs.Common.{◌≡◌, take}
use Rattle.std.specs.Prelude.{ℤ, pos, ◌+ℤ◌}
use Rattle.head_column.specs.Hours.{hour_start}
use Rattle.block_read.specs.Reading.{AreWithin}
use Rattle.block_read.proofs.describing.has_runs.Given as goal

abbrev pub invariant-loop-run : goal.invariant-loop-run
invariant-loop-run l = (hour : ℤ) → l.span.start ≡ hour_start hour → l.span.end ≡ hour_start (hour +ℤ pos 1) → AreWithin hour (take l.run-index l.runs)
