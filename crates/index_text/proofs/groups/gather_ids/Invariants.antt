use Rattle.std.proofs.Common.{◌≡◌, map, take}
use Rattle.index_text.specs.Lent.{row_label_of}
use Rattle.index_text.specs.Posted.{ids_at}
use Rattle.index_text.proofs.groups.gather_ids.Given as goal

abbrev pub invariant-loop-label : goal.invariant-loop-label
invariant-loop-label l = l.gathered.items ≡ ids_at l.ids (map row_label_of (take l.label-index l.labels))
