use Rattle.std.proofs.Common.{◌≡◌, take}
use Rattle.std.specs.Prelude.{ℤ, pos, ◌+ℤ◌}
use Rattle.std.specs.List.{AllByRecursion}
use Rattle.head_column.specs.Hours.{hour_start}
use Rattle.block_read.specs.Reading.{AreOfHour, AreWithin}
use Rattle.block_read.proofs.describing.has_rows.Given as goal

abbrev pub invariant-loop-row : goal.invariant-loop-row
invariant-loop-row l = (hour : ℤ) → l.span.start ≡ hour_start hour → l.span.end ≡ hour_start (hour +ℤ pos 1) → AllByRecursion (AreOfHour hour) (take l.row-index l.samples)

abbrev pub invariant-loop-runs : goal.invariant-loop-runs
invariant-loop-runs l = (hour : ℤ) → l.span.start ≡ hour_start hour → l.span.end ≡ hour_start (hour +ℤ pos 1) → AllByRecursion (AreWithin hour) (take l.runs-index l.hidden)
