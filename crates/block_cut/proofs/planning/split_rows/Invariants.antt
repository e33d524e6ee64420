use Rattle.std.proofs.Common.{◌≡◌, map}
use Rattle.hour_rows.specs.declared.outlines.RowOutline.{RowOutline}
use Rattle.block_cut.specs.Cutting.{planned}
use Rattle.block_cut.proofs.planning.split_rows.Given as goal

abbrev pub invariant-loop-row : goal.invariant-loop-row
invariant-loop-row l = record {
  series : l.series.items ≡ map planned l.yielded;
  labels : l.labels.items ≡ map (λ (r : RowOutline). r.labels) l.yielded;
  chunks : l.chunks.items ≡ map (λ (r : RowOutline). r.chunks) l.yielded;
  hidden : l.hidden.items ≡ map (λ (r : RowOutline). r.hidden) l.yielded;
}
