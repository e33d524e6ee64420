use Rattle.std.proofs.Common.{◌≡◌, ◌++◌, take}
use Rattle.std.specs.List.{flat_map}
use Rattle.index_text.specs.Gives.{nows}
use Rattle.index_text.specs.Index.{label_refs}
use Rattle.index_text.proofs.writer.put_labels.Given as goal

abbrev pub invariant-loop-i : goal.invariant-loop-i
invariant-loop-i l = l.out.items ≡ l.fn.out.items ++ flat_map (label_refs (nows l.table)) (take l.i l.labels)
