use Rattle.std.proofs.Common.{◌∙◌, ap, inr, map, rules, subst, sym}
use Rattle.std.specs.Prelude.{IsOk, codes}
use Rattle.std.specs.Path.{path_join}
use Rattle.std.proofs.lemmas.Result.{err_from_is_err_and}
use Rattle.new_files.specs.Folders.{file_at}
use Rattle.store.specs.Views.{view_of}
use Rattle.block_commands.specs.Folders.{IsFreeIn, WritesBlock, block_files}
use Rattle.block_commands.proofs.Folders.{block_inside, ulid_is_name}
use Rattle.block_commands.proofs.writing.write_block.Goals as goal

pub new-requires : goal.new-requires
new-requires g c = ulid_is_name c.args.name.now (record { long = c.requires.long; digits = c.requires.digits; low = c.requires.low })

pub write_new_folder-requires : goal.write_new_folder-requires
write_new_folder-requires g c =
    let folder = c.in_ok-target.target.unfinished in
    let block = c.args.block.now in
    record {
      inside = block_inside folder _ block _ (c.in_ok-chunks.ensures ∙ ap (λ f. path_join f (codes "chunks")) c.unfinished.ensures.path)
          (ap (map file_at) c.deref-2.ensures.value ∙ c.in_ok-files.ensures ∙ ap (λ f. block_files f c.deref.result.now block) c.unfinished-2.ensures.path ∙ ap (λ d. block_files folder d block) c.deref.ensures);
    }

pub returns-in_err-write_new_folder : goal.returns-in_err-write_new_folder
returns-in_err-write_new_folder g c =
    let p = err_from_is_err_and c.from_residual-in_err-write_new_folder.result c.from_residual-in_err-write_new_folder.ensures.1 in
    record {
      crash = subst (λ r. WritesBlock g.S.Store.did g.S.Store.holds c.args.store.now c.args.out.now c.args.name.now c.args.block.now (IsOk r) c.write_new_folder.new.store) (sym p.1)
          (inr (subst (λ at. IsFreeIn (view_of (g.S.Store.holds c.args.store.now)) at.parent c.args.name.now) c.in_ok-target.ensures c.in_ok-check_free.ensures, search rules));
    }

pub returns : goal.returns
returns g c =
    record { crash = inr (subst (λ at. IsFreeIn (view_of (g.S.Store.holds c.args.store.now)) at.parent c.args.name.now) c.in_ok-target.ensures c.in_ok-check_free.ensures, search rules) }
