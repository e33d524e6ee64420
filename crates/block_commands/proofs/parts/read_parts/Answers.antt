use Rattle.std.proofs.Common.{◌∙◌}
use Rattle.block_read.specs.declared.block.Block.{Block}
use Rattle.block_commands.proofs.ReadParts.{all_parts}
use Rattle.block_commands.proofs.parts.read_parts.Goals as goal

pub returns : goal.returns
returns g c =
    let block : Block = record { index = c.in_ok-index.index; chunks = c.in_ok-chunks.chunks; tombstones = c.in_ok-tombstones.tombstones; meta = c.in_ok-meta.meta } in
    all_parts (g.S.Store.holds c.args.store.now) c.args.path.now c.deref.result.now block (c.deref.ensures ∙ c.in_ok-dir.ensures) c.in_ok-index.ensures c.in_ok-chunks.ensures c.in_ok-tombstones.ensures c.in_ok-meta.ensures
