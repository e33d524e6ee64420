use Rattle.std.proofs.Common.{◌≡◌, List, length, vec_len}
use Rattle.head_column.specs.declared.items.Run.{Run}
use Rattle.head_column.specs.Samples.{Sample}
use Rattle.index_text.specs.declared.row.IndexRow.{IndexRow}
use Rattle.block_read.specs.declared.rows.BlockRow.{BlockRow}
use Rattle.block_read.proofs.Popped.{Shared}
use Rattle.block_read.proofs.joining.join_rows.Given as goal

abbrev pub decreases-loop-row : goal.decreases-loop-row
decreases-loop-row l = vec_len l.index

abbrev pub invariant-loop-row : goal.invariant-loop-row
invariant-loop-row l = record {
  labels : Shared (λ (r : IndexRow). r.labels) (λ (r : BlockRow). r.labels) l.index.items l.rows.items l.fn.index.items;
  samples : Shared (λ (s : List Sample). s) (λ (r : BlockRow). r.samples) l.samples.items l.rows.items l.fn.samples.items;
  hidden : Shared (λ (h : List Run). h) (λ (r : BlockRow). r.hidden) l.hidden.items l.rows.items l.fn.hidden.items;
  as_many : length l.samples.items ≡ length l.index.items;
  as_many_hidden : length l.hidden.items ≡ length l.index.items;
}
