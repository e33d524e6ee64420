use Rattle.std.proofs.Common.{◌≡◌, ◌++◌, ◌+◌, ◌-◌, OnOk, List, arith, subst, ◌∙◌}
use Rattle.std.specs.List.{flat_map}
use Rattle.hw_bytes.specs.Sums.{Text}
use Rattle.block_files.specs.Files.{chunk_element}
use Rattle.block_cut.proofs.Windows.{some_texts}
use Rattle.block_cut.proofs.chunk_file.put_some.Goals as goal

pub returns : goal.returns
returns c =
    let e = c.args.encoding in
    subst (λ (texts : List Text). OnOk c.put_chunks.result (c.put_chunks.new.bytes.items ≡ c.args.bytes.now.items ++ flat_map (chunk_element e) texts))
    (some_texts c.deref.result.now _ c.args.first c.args.count (c.args.first + c.args.count - c.args.first) (omega arith) (c.deref.ensures.value ∙ c.in_ok-chunks.ensures.chunks)) c.put_chunks.ensures
