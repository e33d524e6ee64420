use Rattle.std.proofs.Common.{subst, sym}
use Rattle.block_read.specs.Blocks.{IsBlockOf}
use Rattle.block_read.specs.declared.block.Block.{Block}
use Rattle.hour_rows.specs.Rows.{rows_of}
use Rattle.block_cut.proofs.planned_block.plan_in.Goals as goal

pub returns-clause-block : goal.returns-clause-block
returns-clause-block g c =
    let is = c.in_ok-plan.ensures.plan in
    subst (λ (b : Block). IsBlockOf c.args.encoding b (record { ulid = c.args.ulid.now; hour = c.args.hour; rows = rows_of c.args.hour c.args.head.now.content })) (sym (c.new.ensures is.block is.is_plan)) is.is_block
