use Rattle.std.proofs.Common.{◌≡◌, take}
use Rattle.std.specs.Prelude.{ℤ, pos, ◌+ℤ◌}
use Rattle.head_column.specs.Hours.{hour_start}
use Rattle.block_read.specs.Reading.{AreOfHour}
use Rattle.block_read.proofs.describing.has_samples.Given as goal

abbrev pub invariant-loop-sample : goal.invariant-loop-sample
invariant-loop-sample l = (hour : ℤ) → l.span.start ≡ hour_start hour → l.span.end ≡ hour_start (hour +ℤ pos 1) → AreOfHour hour (take l.sample-index l.samples)
