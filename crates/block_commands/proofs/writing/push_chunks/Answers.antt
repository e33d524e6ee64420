use Rattle.std.proofs.Common.{[], ◌∷◌, ◌++◌, ap, append_assoc, map, sym, take, ◌∙◌}
use Rattle.new_files.specs.Folders.{file_at}
use Rattle.block_commands.specs.Folders.{chunk_paths, named}
use Rattle.block_commands.proofs.Folders.{one_more}
use Rattle.block_commands.proofs.writing.push_chunks.Goals as goal

pub loop-index-preserved : goal.loop-index-preserved
loop-index-preserved c =
    let dir = c.args.dir.now in
    let i = c.loop-index.index in
    let before = map file_at c.args.files.now.items in
    let file = named dir c.deref.result.now c.as_slice.result.now in
    c.in_ok-push_file.ensures
    ∙ ap (λ files. files ++ file ∷ []) c.loop-index.invariant
    ∙ append_assoc before (chunk_paths dir 1 (take i c.args.chunks.now)) (file ∷ [])
    ∙ ap (λ files. before ++ files) (sym (one_more dir i c.args.chunks.now c.index-chunks-index.result c.deref.result.now c.as_slice.result.now c.loop-index-test.true c.index-chunks-index.is (c.deref.ensures ∙ c.in_ok-name.ensures) c.as_slice.ensures))
