use Rattle.std.proofs.Common.{◌∷◌, length, map, string_bytes, subst, sym, ◌<◌}
use Rattle.std.specs.Prelude.{IsOk}
use Rattle.std.proofs.lemmas.Bool.{false≢true}
use Rattle.std.proofs.lemmas.Result.{err_from_is_err_and}
use Rattle.store.specs.Calls.{CreateDir}
use Rattle.new_files.specs.Folders.{create_dirs, file_at, files_calls}
use Rattle.new_files.specs.Orders.{DidAll, DidFirst}
use Rattle.new_files.proofs.FolderSafe.{begun_first, is_safe, not_ended, then_finished}
use Rattle.new_files.proofs.Orders.{all_both, first_behind, first_of_more}
use Rattle.new_files.proofs.Paths.{unfinished_longer}
use Rattle.new_files.proofs.folder.write_new_folder.Goals as goal

pub returns-in_err-begin_folder : goal.returns-in_err-begin_folder
returns-in_err-begin_folder g c =
    let p = err_from_is_err_and c.from_residual.result c.from_residual.ensures.1 in
    let did = g.S.Store.did in
    let target = c.args.target.now in
    let dirs = map string_bytes c.args.dirs.now in
    let files = map file_at c.args.files.now in
    let begun = subst (λ u. DidFirst did c.args.store.now (CreateDir u ∷ create_dirs dirs) c.begin_folder.new.store) c.unfinished.ensures.path c.in_err-begin_folder.ensures in
    record {
      crash = not_ended did _ target.parent target.path target.unfinished dirs files (IsOk c.from_residual.result) _ (λ went. false≢true (subst (λ r. IsOk r) p.1 went))
          (subst (λ u. length target.path < length u) (sym c.unfinished.ensures.behind) (unfinished_longer target.path)) c.requires.inside
          (begun_first did target.parent target.path target.unfinished dirs files _ _ (first_of_more did _ _ (CreateDir target.unfinished ∷ create_dirs dirs) (files_calls files) begun));
    }

pub returns-in_err-write_files : goal.returns-in_err-write_files
returns-in_err-write_files g c =
    let p = err_from_is_err_and c.from_residual-in_err-write_files.result c.from_residual-in_err-write_files.ensures.1 in
    let did = g.S.Store.did in
    let target = c.args.target.now in
    let dirs = map string_bytes c.args.dirs.now in
    let files = map file_at c.args.files.now in
    let begun = subst (λ u. DidAll did c.args.store.now (CreateDir u ∷ create_dirs dirs) c.begin_folder.new.store) c.unfinished.ensures.path c.in_ok-begin_folder.ensures in
    record {
      crash = not_ended did _ target.parent target.path target.unfinished dirs files (IsOk c.from_residual-in_err-write_files.result) _ (λ went. false≢true (subst (λ r. IsOk r) p.1 went))
          (subst (λ u. length target.path < length u) (sym c.unfinished.ensures.behind) (unfinished_longer target.path)) c.requires.inside
          (begun_first did target.parent target.path target.unfinished dirs files _ _ (first_behind did g.met.S.Store.did_both _ _ _ (CreateDir target.unfinished ∷ create_dirs dirs) (files_calls files) begun c.in_err-write_files.ensures));
    }

pub returns : goal.returns
returns g c =
    let did = g.S.Store.did in
    let target = c.args.target.now in
    let dirs = map string_bytes c.args.dirs.now in
    let files = map file_at c.args.files.now in
    let begun = subst (λ u. DidAll did c.args.store.now (CreateDir u ∷ create_dirs dirs) c.begin_folder.new.store) c.unfinished.ensures.path c.in_ok-begin_folder.ensures in
    let filled = all_both did g.met.S.Store.did_both _ _ _ (CreateDir target.unfinished ∷ create_dirs dirs) (files_calls files) begun c.in_ok-write_files.ensures in
    record {
      crash = is_safe did _ target.parent target.path target.unfinished dirs files c.finish_folder.result _
          (subst (λ u. length target.path < length u) (sym c.unfinished.ensures.behind) (unfinished_longer target.path)) c.finish_folder.ensures.inside c.requires.inside
          (then_finished did target.parent target.path target.unfinished dirs files g.met.S.Store.did_both _ _ _ c.finish_folder.result filled c.finish_folder.ensures.calls);
    }
