use Rattle.std.proofs.Common.{◌≡◌, ◌++◌, length, map, take}
use Rattle.std.specs.List.{flat_map}
use Rattle.hw_bytes.specs.Writing.{big_bytes}
use Rattle.index_text.specs.declared.ordering.LentLabel.{LentLabel}
use Rattle.index_text.specs.Gives.{nows}
use Rattle.index_text.specs.Sets.{rank, text_cmp}
use Rattle.index_text.proofs.groups.put_label_index.Given as goal

abbrev pub invariant-loop-label : goal.invariant-loop-label
invariant-loop-label l = l.body.items ≡ big_bytes 4 1 ++ big_bytes 4 (length l.labels) ++ flat_map (λ v. big_bytes 4 (rank text_cmp v (nows l.table))) (map (λ (x : LentLabel). x.value.now) (take l.label-index l.labels))
