use Rattle.std.proofs.Common.{◌++◌, List, map, take}
use Rattle.std.specs.Prelude.{ℤ}
use Rattle.xor_chunk.specs.declared.sample.Sample.{Sample}
use Rattle.head_intervals.specs.Intervals.{AreCounts}
use Rattle.head_intervals.proofs.counts.add_samples.Given as goal

abbrev pub invariant-loop-sample : goal.invariant-loop-sample
invariant-loop-sample l = (times : List ℤ) → AreCounts l.intervals times l.fn.counts.items → AreCounts l.intervals (times ++ map (λ (s : Sample). s.time) (take l.sample-index l.samples)) l.counts.items
