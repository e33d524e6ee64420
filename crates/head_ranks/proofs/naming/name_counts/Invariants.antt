use Rattle.std.proofs.Common.{take}
use Rattle.head_ranks.specs.Counting.{AreNamed}
use Rattle.head_ranks.proofs.naming.name_counts.Given as goal

abbrev pub invariant-loop-label : goal.invariant-loop-label
invariant-loop-label l = AreNamed (take l.label-index l.labels) l.namer
