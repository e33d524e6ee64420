use Rattle.std.specs.List.Sorted.{IsPermutation}
use Rattle.index_text.proofs.arranging.arrange.Given as goal

abbrev pub invariant-loop : goal.invariant-loop
invariant-loop l = IsPermutation l.fn.labels.items l.labels.items
