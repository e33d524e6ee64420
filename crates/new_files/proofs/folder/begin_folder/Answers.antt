use Rattle.std.proofs.Common.{[], ◌∷◌, map, string_bytes, subst}
use Rattle.std.proofs.lemmas.Result.{err_from_is_err_and}
use Rattle.store.specs.Calls.{Called, CreateDir}
use Rattle.new_files.specs.Folders.{create_dirs}
use Rattle.new_files.proofs.Orders.{called_err, called_ok, first_of_more, handed_on, then_follows, told}
use Rattle.new_files.proofs.folder.begin_folder.Goals as goal

pub returns-in_err-written : goal.returns-in_err-written
returns-in_err-written g c =
    let p = err_from_is_err_and c.from_residual.result c.from_residual.ensures.1 in
    let did = g.S.Store.did in
    let call = CreateDir c.args.folder.now in
    let made = subst (λ r. Called did c.args.store.now call r c.create_dir.new.self) c.in_err-written.was (told _ _ c.create_dir.result c.written.result c.written.ensures.ok c.written.ensures.err c.create_dir.ensures) in
    handed_on did _ _ _ _ _ p.1 (first_of_more did _ _ (call ∷ []) (create_dirs (map string_bytes c.args.dirs.now)) (called_err did _ _ call made))

pub returns : goal.returns
returns g c =
    let did = g.S.Store.did in
    let call = CreateDir c.args.folder.now in
    let made = subst (λ r. Called did c.args.store.now call r c.create_dir.new.self) c.in_ok-written.was (told _ _ c.create_dir.result c.written.result c.written.ensures.ok c.written.ensures.err c.create_dir.ensures) in
    then_follows did g.met.S.Store.did_both _ _ _ (call ∷ []) (create_dirs (map string_bytes c.args.dirs.now)) _ (called_ok did _ _ call made) c.create_dirs.ensures
