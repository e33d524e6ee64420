use Rattle.std.specs.Prelude.{IsOk}
use Rattle.rescue_commands.proofs.Groups.{one_more_written, written_all, written_up_to}
use Rattle.rescue_commands.proofs.Written.{not_ok}
use Rattle.rescue_commands.proofs.writing.write_blocks.Goals as goal

pub loop-named-preserved : goal.loop-named-preserved
loop-named-preserved g c =
    one_more_written g.S.Store.did g.S.Store.holds c.args.shelf.now.out.now c.args.head.now.content c.args.hours.now c.args.blocks.now c.requires c.loop-named.named-index c.named-item.result
    c.loop-named-test.true c.named-item.is c.args.store.now c.loop-named.store c.write_cut.new.store c.loop-named.invariant c.in_ok-write_cut.ensures.done

pub returns-in_err-write_cut : goal.returns-in_err-write_cut
returns-in_err-write_cut g c =
    written_up_to g.S.Store.did g.S.Store.holds c.args.shelf.now.out.now c.args.head.now.content c.args.hours.now c.args.blocks.now c.requires c.loop-named.named-index c.named-item.result
    c.loop-named-test.true c.named-item.is c.args.store.now c.loop-named.store c.write_cut.new.store (IsOk c.from_residual.result) c.loop-named.invariant
    (not_ok _ c.from_residual.result c.from_residual.ensures.1) c.in_err-write_cut.ensures.failed

pub returns : goal.returns
returns g c =
    written_all g.S.Store.did g.S.Store.holds c.args.shelf.now.out.now c.args.head.now.content c.args.hours.now c.args.blocks.now c.requires c.args.store.now c.loop-named.store c.loop-named.named-index _
    c.loop-named-test.false c.loop-named.invariant
