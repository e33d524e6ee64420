use Rattle.std.proofs.Common.{sym, subst}
use Rattle.hour_rows.specs.Rows.{rows_of}
use Rattle.block_read.specs.declared.block.Block.{Block}
use Rattle.block_read.specs.Blocks.{IsBlockOf}
use Rattle.block_cut.proofs.cutting.cut_any.Goals as goal

pub finish-requires : goal.finish-requires
finish-requires g c = (let planned = c.in_ok-plan.ensures.plan in record { sound = c.requires; whole = planned.is_block.whole; planned = planned.is_plan.series })

pub returns-clause-block : goal.returns-clause-block
returns-clause-block g c =
    let planned = c.in_ok-plan.ensures.plan in
    subst (λ (block : Block). IsBlockOf c.args.encoding block (record { ulid = c.args.ulid.now; hour = c.args.hour; rows = rows_of c.args.hour c.args.head.now.content })) (sym (c.in_ok-finish.ensures planned.block planned.is_plan)) planned.is_block
