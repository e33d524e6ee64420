use Rattle.std.proofs.lemmas.Result.{err_from_is_err_and}
use Rattle.index_text.specs.Gives.{with_front}
use Rattle.index_text.specs.Fields.{next_chunks}
use Rattle.index_text.proofs.ChunkLoops.{chunks_go_on, chunks_end, chunks_done}
use Rattle.index_text.proofs.lists.later_chunks.Goals as goal

pub loop-preserved : goal.loop-preserved
loop-preserved c =
    rw c.in_ok-push.ensures.items (chunks_go_on c.loop.chunks.items c.args.count c.loop.counter c.loop.last c.loop.rest.now c.in_ok-chunk.chunk c.in_ok-chunk.after.now (with_front c.args.chunks.items (next_chunks c.args.count c.args.last c.args.bytes.now)) c.loop-test.true c.in_ok-chunk.ensures c.loop.invariant)

pub returns : goal.returns
returns c = chunks_done c.loop.chunks.items c.args.count c.loop.counter c.loop.last c.loop.rest.now (with_front c.args.chunks.items (next_chunks c.args.count c.args.last c.args.bytes.now)) c.loop-test.false c.loop.invariant

pub returns-in_err-chunk : goal.returns-in_err-chunk
returns-in_err-chunk c =
    let p = err_from_is_err_and c.from_residual.result c.from_residual.ensures.1 in
    rw (p.1, p.2) (chunks_end c.in_err-chunk.field-0.0 c.loop.chunks.items c.args.count c.loop.counter c.loop.last c.loop.rest.now (with_front c.args.chunks.items (next_chunks c.args.count c.args.last c.args.bytes.now)) c.loop-test.true c.in_err-chunk.ensures c.loop.invariant)
