use Rattle.std.proofs.Common.{◌+◌, ◌<◌, arith, length, refl}
use Rattle.std.proofs.lemmas.Result.{err_from_is_err_and}
use Rattle.block_commands.proofs.ChunkCalls.{ends, goes_on}
use Rattle.block_commands.proofs.writing.write_chunk_files.Goals as goal

pub returns-in_err-write_chunk_file : goal.returns-in_err-write_chunk_file
returns-in_err-write_chunk_file g c =
    let p = err_from_is_err_and c.from_residual.result c.from_residual.ensures.1 in
    let i = c.loop-place.place in
    let chunks = c.args.block.now.chunks in
    let lt : i < length chunks = omega (arith, c.loop-place-test.true, c.chunk_files-place-end.ensures) in
    ends c.args.dir.now chunks i (i + 1) c.chunk_file-file.result.text lt c.chunk_file-file.ensures refl
    g.S.Store.did g.met.S.Store.did_both _ _ _ c.loop-place.invariant _ _ p.1 c.in_err-write_chunk_file.ensures

pub loop-place-preserved : goal.loop-place-preserved
loop-place-preserved g c =
    let i = c.loop-place.place in
    let chunks = c.args.block.now.chunks in
    let lt : i < length chunks = omega (arith, c.loop-place-test.true, c.chunk_files-place-end.ensures) in
    goes_on c.args.dir.now chunks i (i + 1) c.chunk_file-file.result.text lt c.chunk_file-file.ensures refl
    g.S.Store.did g.met.S.Store.did_both _ _ _ c.loop-place.invariant c.in_ok-write_chunk_file.ensures
