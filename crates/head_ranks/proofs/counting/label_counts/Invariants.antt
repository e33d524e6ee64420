use Rattle.std.proofs.Common.{take}
use Rattle.head_ranks.specs.Counting.{IsCountOf, series_of}
use Rattle.head_ranks.proofs.counting.label_counts.Given as goal

abbrev pub invariant-loop-number : goal.invariant-loop-number
invariant-loop-number l = IsCountOf (take l.number (series_of l.head.content)) l.counter
