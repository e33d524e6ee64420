use Rattle.std.proofs.Common.{[], ◌∷◌, ◌++◌, List, append_assoc, map, string_bytes, subst}
use Rattle.std.proofs.lemmas.Result.{err_from_is_err_and}
use Rattle.store.specs.Calls.{Call, Rename, SyncDir}
use Rattle.new_files.specs.Folders.{sync_dirs}
use Rattle.new_files.specs.Orders.{DidFirst, Follows}
use Rattle.new_files.proofs.FolderSafe.{finishing}
use Rattle.new_files.proofs.Orders.{first_of_more, handed_on, then_follows}
use Rattle.new_files.proofs.Paths.{at_target}
use Rattle.new_files.proofs.folder.finish_folder.Goals as goal

pub returns-in_err-sync_folder-clause-calls : goal.returns-in_err-sync_folder-clause-calls
returns-in_err-sync_folder-clause-calls g c =
    let p = err_from_is_err_and c.from_residual.result c.from_residual.ensures.1 in
    let did = g.S.Store.did in
    let dirs = map string_bytes c.args.dirs.now in
    let target = c.args.target.now in
    let late = Rename target.unfinished target.path ∷ SyncDir target.parent ∷ [] in
    handed_on did _ _ _ _ _ p.1 (subst (λ (all : List Call). DidFirst did c.args.store.now all c.sync_folder.new.store) (append_assoc (sync_dirs dirs) (SyncDir target.unfinished ∷ []) late)
    (first_of_more did _ _ (sync_dirs dirs ++ SyncDir target.unfinished ∷ []) late
    (subst (λ u. DidFirst did c.args.store.now (sync_dirs dirs ++ SyncDir u ∷ []) c.sync_folder.new.store) c.unfinished-unfinished.ensures.path c.in_err-sync_folder.ensures)))

pub returns-clause-calls : goal.returns-clause-calls
returns-clause-calls g c =
    let did = g.S.Store.did in
    let dirs = map string_bytes c.args.dirs.now in
    let path = c.path-path.result.now in
    let unfinished = c.unfinished-unfinished.result.now in
    let parent = c.parent.result.now in
    at_target c.args.target.now parent path unfinished c.parent.ensures c.path-path.ensures.path c.unfinished-unfinished.ensures.path
    (λ parent path unfinished. Follows did c.args.store.now (finishing parent path unfinished dirs) c.move_folder.result c.move_folder.new.store)
    (subst (λ (all : List Call). Follows did c.args.store.now all c.move_folder.result c.move_folder.new.store) (append_assoc (sync_dirs dirs) (SyncDir unfinished ∷ []) (Rename unfinished path ∷ SyncDir parent ∷ []))
    (then_follows did g.met.S.Store.did_both _ _ _ (sync_dirs dirs ++ SyncDir unfinished ∷ []) (Rename unfinished path ∷ SyncDir parent ∷ []) _ c.in_ok-sync_folder.ensures c.move_folder.ensures))
