use Rattle.std.proofs.Common.{◌≡◌, ◌++◌, All, map, take}
use Rattle.wal_record.specs.Labels.{IsLabelSet}
use Rattle.head_live.specs.Rows.{row_of}
use Rattle.head_live.proofs.prepared.Prepared.add_each.Given as goal

abbrev pub invariant-loop-row : goal.invariant-loop-row
invariant-loop-row l = record {
  sets : l.self.sets ≡ l.fn.self.sets ++ map (λ raw. (row_of raw).labels) (take l.row l.rows);
  rows : l.self.rows ≡ l.fn.self.rows;
  ordered : All (λ raw. IsLabelSet (row_of raw).labels) (take l.row l.rows);
}
