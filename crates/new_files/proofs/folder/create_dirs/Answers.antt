use Rattle.std.proofs.Common.{[], ◌∷◌, ap, string_bytes, subst, sym}
use Rattle.std.proofs.lemmas.Result.{err_from_is_err_and}
use Rattle.store.specs.Calls.{Called, CreateDir}
use Rattle.new_files.proofs.Orders.{called_err, called_ok, told}
use Rattle.new_files.proofs.Runs.{ends, goes_on}
use Rattle.new_files.proofs.folder.create_dirs.Goals as goal

pub returns-in_err-written : goal.returns-in_err-written
returns-in_err-written g c =
    let p = err_from_is_err_and c.from_residual.result c.from_residual.ensures.1 in
    let did = g.S.Store.did in
    let call = CreateDir c.as_str-path.result.now in
    let made = subst (λ r. Called did c.loop-dir.store call r c.create_dir.new.self) c.in_err-written.was (told _ _ c.create_dir.result c.written.result c.written.ensures.ok c.written.ensures.err c.create_dir.ensures) in
    ends string_bytes (λ dir. CreateDir dir ∷ []) c.args.dirs.now c.loop-dir.dir-index c.dir-item.result (call ∷ []) c.loop-dir-test.true c.dir-item.is (ap (λ path. CreateDir path ∷ []) (sym c.as_str-path.ensures.value))
    did g.met.S.Store.did_both _ _ _ c.loop-dir.invariant _ _ p.1 (called_err did _ _ call made)

pub loop-dir-preserved : goal.loop-dir-preserved
loop-dir-preserved g c =
    let did = g.S.Store.did in
    let call = CreateDir c.as_str-path.result.now in
    let made = subst (λ r. Called did c.loop-dir.store call r c.create_dir.new.self) c.in_ok-written.was (told _ _ c.create_dir.result c.written.result c.written.ensures.ok c.written.ensures.err c.create_dir.ensures) in
    goes_on string_bytes (λ dir. CreateDir dir ∷ []) c.args.dirs.now c.loop-dir.dir-index c.dir-item.result (call ∷ []) c.loop-dir-test.true c.dir-item.is (ap (λ path. CreateDir path ∷ []) (sym c.as_str-path.ensures.value))
    did g.met.S.Store.did_both _ _ _ c.loop-dir.invariant (called_ok did _ _ call made)
