use Rattle.std.proofs.lemmas.Slice.Zip.{either_empty_from_Zip}
use Rattle.block_cut.specs.Cutting.{meta_from}
use Rattle.block_cut.proofs.Zips.{map_zipped}
use Rattle.block_cut.proofs.planning.name_chunks.Goals as goal

pub returns-clause-metas : goal.returns-clause-metas
returns-clause-metas c =
    map_zipped meta_from _ _ _ _ (either_empty_from_Zip c.loop-chunk.chunk-iterator c.next.new.self _ c.in-None.is c.next.ensures.steps) c.loop-chunk.invariant.whole
