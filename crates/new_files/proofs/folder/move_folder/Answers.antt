use Rattle.std.proofs.Common.{[], ◌∷◌, subst}
use Rattle.std.proofs.lemmas.Result.{err_from_is_err_and}
use Rattle.store.specs.Calls.{Called, Rename, SyncDir}
use Rattle.new_files.proofs.Orders.{called_err, called_ok, first_of_more, follows_call, handed_on, then_follows, told}
use Rattle.new_files.proofs.folder.move_folder.Goals as goal

pub returns-in_err-written : goal.returns-in_err-written
returns-in_err-written g c =
    let p = err_from_is_err_and c.from_residual.result c.from_residual.ensures.1 in
    let did = g.S.Store.did in
    let call = Rename c.args.unfinished.now c.args.path.now in
    let made = subst (λ r. Called did c.args.store.now call r c.rename.new.self) c.in_err-written.was (told _ _ c.rename.result c.written.result c.written.ensures.ok c.written.ensures.err c.rename.ensures) in
    handed_on did _ _ _ _ _ p.1 (first_of_more did _ _ (call ∷ []) (SyncDir c.args.parent.now ∷ []) (called_err did _ _ call made))

pub returns : goal.returns
returns g c =
    let did = g.S.Store.did in
    let call = Rename c.args.unfinished.now c.args.path.now in
    let last = SyncDir c.args.parent.now in
    let made = subst (λ r. Called did c.args.store.now call r c.rename.new.self) c.in_ok-written.was (told _ _ c.rename.result c.written.result c.written.ensures.ok c.written.ensures.err c.rename.ensures) in
    let ended = follows_call did _ _ last c.written-2.result (told _ _ c.sync_dir.result c.written-2.result c.written-2.ensures.ok c.written-2.ensures.err c.sync_dir.ensures) in
    then_follows did g.met.S.Store.did_both _ _ _ (call ∷ []) (last ∷ []) _ (called_ok did _ _ call made) ended
