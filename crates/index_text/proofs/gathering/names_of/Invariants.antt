use Rattle.std.proofs.Common.{◌≡◌, map, take}
use Rattle.wal_record.specs.declared.labels.Label.{Label}
use Rattle.index_text.specs.Gives.{nows}
use Rattle.index_text.specs.Lent.{label_of}
use Rattle.index_text.proofs.gathering.names_of.Given as goal

abbrev pub invariant-loop-label : goal.invariant-loop-label
invariant-loop-label l = nows l.names.items ≡ map (λ (x : Label). x.name) (map label_of (take l.label-index l.labels))
