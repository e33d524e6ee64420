use Rattle.std.proofs.Common.{◌≡◌, take}
use Rattle.std.specs.Prelude.{filter}
use Rattle.wal_record.specs.Labels.{same_text}
use Rattle.head_ranks.specs.Counts.{metric_name}
use Rattle.head_ranks.proofs.naming.metrics.Given as goal

abbrev pub invariant-loop-label : goal.invariant-loop-label
invariant-loop-label l = l.metrics.items ≡ filter (λ c. same_text c.name.now metric_name) (take l.label-index l.labels)
