use Rattle.std.proofs.Common.{[], ◌∷◌, map, string_bytes}
use Rattle.std.proofs.lemmas.Result.{err_from_is_err_and}
use Rattle.store.specs.Calls.{SyncDir}
use Rattle.new_files.specs.Folders.{sync_dirs}
use Rattle.new_files.proofs.Orders.{first_of_more, follows_call, handed_on, then_follows, told}
use Rattle.new_files.proofs.folder.sync_folder.Goals as goal

pub returns-in_err-sync_dirs : goal.returns-in_err-sync_dirs
returns-in_err-sync_dirs g c =
    let p = err_from_is_err_and c.from_residual.result c.from_residual.ensures.1 in
    handed_on g.S.Store.did _ _ _ _ _ p.1 (first_of_more g.S.Store.did _ _ (sync_dirs (map string_bytes c.args.dirs.now)) (SyncDir c.args.folder.now ∷ []) c.in_err-sync_dirs.ensures)

pub returns : goal.returns
returns g c =
    let did = g.S.Store.did in
    let last = SyncDir c.args.folder.now in
    let ended = follows_call did _ _ last c.written.result (told _ _ c.sync_dir.result c.written.result c.written.ensures.ok c.written.ensures.err c.sync_dir.ensures) in
    then_follows did g.met.S.Store.did_both _ _ _ (sync_dirs (map string_bytes c.args.dirs.now)) (last ∷ []) _ c.in_ok-sync_dirs.ensures ended
