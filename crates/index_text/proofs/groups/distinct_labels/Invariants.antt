use Rattle.std.proofs.Common.{◌≡◌, ◌≤◌, ◌-◌, ◌++◌, length, map, drop}
use Rattle.wal_record.specs.Labels.{compare_label}
use Rattle.index_text.specs.Lent.{label_of, row_label_of}
use Rattle.index_text.specs.Posted.{labels_in}
use Rattle.index_text.proofs.GroupLaws.{KeysRise}
use Rattle.index_text.proofs.IndexSteps.{label_in}
use Rattle.index_text.proofs.groups.distinct_labels.Given as goal

abbrev pub decreases-loop-start : goal.decreases-loop-start
decreases-loop-start l = length l.labels - l.start

abbrev pub invariant-loop-start : goal.invariant-loop-start
invariant-loop-start l = record {
  within : l.start ≤ length l.labels;
  listed : map label_of l.distinct.items ++ labels_in (map row_label_of (drop l.start l.labels)) ≡ labels_in (map row_label_of l.labels);
  rises : KeysRise label_in compare_label (map row_label_of (drop l.start l.labels));
}
