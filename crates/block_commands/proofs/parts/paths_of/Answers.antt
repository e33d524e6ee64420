use Rattle.std.proofs.Common.{◌∙◌}
use Rattle.block_commands.proofs.ReadParts.{one_more_path}
use Rattle.block_commands.proofs.parts.paths_of.Goals as goal

pub loop-before-preserved : goal.loop-before-preserved
loop-before-preserved c =
    one_more_path c.args.dir.now c.loop-before.before c.loop-before.paths.items c.push.new.self.items c.in_ok-join.field-0 c.deref.result.now c.loop-before.invariant c.in_ok-push.ensures.items c.in_ok-join.ensures (c.deref.ensures ∙ c.in_ok-name.ensures)
