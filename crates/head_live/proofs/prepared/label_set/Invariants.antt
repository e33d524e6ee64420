use Rattle.std.proofs.Common.{◌≡◌, take}
use Rattle.wal_record.specs.Labels.{IsLabelSet}
use Rattle.head_live.specs.Refused.{labels_of}
use Rattle.head_live.proofs.prepared.label_set.Given as goal

abbrev pub invariant-loop-name : goal.invariant-loop-name
invariant-loop-name l = record {
  labels : l.labels ≡ labels_of (take l.name-index l.pairs);
  ordered : IsLabelSet l.labels;
}
