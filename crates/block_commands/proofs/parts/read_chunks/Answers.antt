use Rattle.std.proofs.Common.{List, String, subst, ◌∙◌}
use Rattle.std.specs.Global.{Global}
use Rattle.std.specs.List.{AllZip}
use Rattle.std.specs.Prelude.{string_bytes}
use Rattle.store.specs.Found.{Bytes}
use Rattle.block_commands.proofs.ReadParts.{all_chunks}
use Rattle.block_commands.proofs.parts.read_chunks.Goals as goal

pub returns : goal.returns
returns g c =
    let holds = g.S.Store.holds c.args.store.now in
    let files = c.in_ok-files.files.items in
    all_chunks holds c.args.dir.now c.unwrap_or-count.result c.in_ok-paths.paths.items files c.from_vec.result c.in_ok-paths.ensures
    (subst (λ (paths : List (String Global)). AllZip (λ path bytes. holds (string_bytes path) (Bytes bytes.items)) paths files) c.deref-2.ensures.value c.in_ok-files.ensures) (c.from_vec.ensures ∙ c.in_ok-wrapped.ensures)
