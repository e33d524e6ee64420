use Rattle.std.proofs.Common.{◌≡◌, ◌<◌, All, AllPairs, map, take}
use Rattle.std.specs.List.{enumerate_from, flat_map}
use Rattle.head_core.specs.Content.{Content}
use Rattle.head_live.specs.Agreeing.{new_rows_at}
use Rattle.head_live.specs.Placed.{IsBefore}
use Rattle.head_live.specs.Placing.{row_at, sample_counts}
use Rattle.head_live.proofs.placing.new_samples.Given as goal

abbrev pub invariant-loop-slot : goal.invariant-loop-slot
invariant-loop-slot l = record {
  rows : (opening : Content) → l.opened ≡ sample_counts opening → map (row_at l.head.content) l.all.items ≡ flat_map (new_rows_at opening l.head.content) (enumerate_from 0 (take l.slot l.head.content.table.series));
  order : AllPairs IsBefore l.all.items;
  below : All (λ s. s.slot < l.slot) l.all.items;
}
