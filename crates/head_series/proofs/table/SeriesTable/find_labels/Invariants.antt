use Rattle.head_series.proofs.RowLemmas.{IsSought}
use Rattle.head_series.proofs.table.SeriesTable.find_labels.Given as goal

abbrev pub invariant-loop-next : goal.invariant-loop-next
invariant-loop-next l = IsSought l.seed l.self.series l.labels l.next

abbrev pub decreases-loop-next : goal.decreases-loop-next
decreases-loop-next l = l.next
