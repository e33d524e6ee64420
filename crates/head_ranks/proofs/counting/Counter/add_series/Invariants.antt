use Rattle.std.proofs.Common.{◌++◌, ◌∷◌, [], List, take}
use Rattle.wal_record.specs.Labels.{Labels}
use Rattle.head_column.specs.Histories.{History}
use Rattle.head_series.specs.Table.{labels_at}
use Rattle.head_core.specs.Heads.{history_at}
use Rattle.head_ranks.specs.Counting.{IsCountOf}
use Rattle.head_ranks.proofs.counting.Counter.add_series.Given as goal

abbrev pub invariant-loop-i : goal.invariant-loop-i
invariant-loop-i l = (before : List (Labels × History)) → IsCountOf before l.fn.self → IsCountOf (before ++ (take l.i (labels_at l.head.content.table l.slot), history_at l.head.content l.slot) ∷ []) l.self
