use Rattle.std.proofs.Common.{◌≡◌, ◌++◌}
use Rattle.std.specs.List.{flat_map, zip}
use Rattle.std.specs.Iterator.Adapters.{zip_first, zip_second}
use Rattle.std.specs.Slice.Iter.{iter_rest}
use Rattle.block_cut.specs.Cutting.{stones}
use Rattle.block_cut.proofs.planning.tombstones_of.Given as goal

abbrev pub invariant-loop-id : goal.invariant-loop-id
invariant-loop-id l =
    l.tombstones.items ++ flat_map stones (zip (iter_rest (zip_first l.id-iterator)) (iter_rest (zip_second l.id-iterator))) ≡ flat_map stones (zip l.ids l.hidden)
