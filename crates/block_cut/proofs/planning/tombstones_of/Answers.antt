use Rattle.std.proofs.lemmas.Slice.Zip.{either_empty_from_Zip}
use Rattle.block_read.specs.Blocks.{tombstones_of}
use Rattle.block_cut.specs.Cutting.{stones}
use Rattle.block_cut.proofs.Zips.{flat_map_zipped}
use Rattle.block_cut.proofs.planning.tombstones_of.Goals as goal

pub returns : goal.returns
unfolding tombstones_of
returns c = flat_map_zipped stones _ _ _ _ (either_empty_from_Zip c.loop-id.id-iterator c.next.new.self _ c.in-None.is c.next.ensures.steps) c.loop-id.invariant
