use Rattle.index_text.proofs.Places.{later_step, later_end}
use Rattle.index_text.proofs.writer.put_later_chunks.Goals as goal

pub loop-chunk-preserved : goal.loop-chunk-preserved
loop-chunk-preserved c = later_step c.loop-chunk.out.items _ c.args.out.now.items c.loop-chunk.last c.args.first c.args.chunks.now c.loop-chunk.chunk-index _ c.loop-chunk-test.true c.in_ok-put_next_chunk.ensures c.loop-chunk.invariant

pub returns : goal.returns
returns c = later_end c.loop-chunk.out.items c.args.out.now.items c.loop-chunk.last c.args.first c.args.chunks.now c.loop-chunk.chunk-index c.loop-chunk-test.false c.loop-chunk.invariant
