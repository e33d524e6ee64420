use Rattle.std.proofs.Common.{ap, sym}
use Rattle.std.proofs.lemmas.Result.{err_from_is_err_and}
use Rattle.new_files.specs.Files.{file_calls}
use Rattle.new_files.specs.Folders.{FileAt, file_at}
use Rattle.new_files.proofs.Runs.{ends, goes_on}
use Rattle.new_files.proofs.folder.write_files.Goals as goal

pub returns-in_err-write_synced : goal.returns-in_err-write_synced
returns-in_err-write_synced g c =
    let p = err_from_is_err_and c.from_residual.result c.from_residual.ensures.1 in
    let bytes = c.file-item.result.bytes.now in
    let calls = file_calls c.as_str.result.now bytes in
    ends file_at (λ (file : FileAt). file_calls file.path file.bytes) c.args.files.now c.loop-file.file-index c.file-item.result calls c.loop-file-test.true c.file-item.is (ap (λ path. file_calls path bytes) (sym c.as_str.ensures.value))
    g.S.Store.did g.met.S.Store.did_both _ _ _ c.loop-file.invariant _ _ p.1 c.in_err-write_synced.ensures.calls

pub loop-file-preserved : goal.loop-file-preserved
loop-file-preserved g c =
    let bytes = c.file-item.result.bytes.now in
    let calls = file_calls c.as_str.result.now bytes in
    goes_on file_at (λ (file : FileAt). file_calls file.path file.bytes) c.args.files.now c.loop-file.file-index c.file-item.result calls c.loop-file-test.true c.file-item.is (ap (λ path. file_calls path bytes) (sym c.as_str.ensures.value))
    g.S.Store.did g.met.S.Store.did_both _ _ _ c.loop-file.invariant c.in_ok-write_synced.ensures.calls
