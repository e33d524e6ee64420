use Rattle.std.proofs.Common.{◌≡◌, [], take}
use Rattle.head_column.specs.Merging.{with_runs}
use Rattle.head_column.specs.Runs.{AreApart}
use Rattle.head_column.proofs.runs.merge_all.Given as goal

-- what the runs so far make
abbrev pub invariant-loop-run : goal.invariant-loop-run
invariant-loop-run l = record {
  apart : AreApart l.merged.items;
  merged : l.merged.items ≡ with_runs [] (take l.run-index l.runs);
}
