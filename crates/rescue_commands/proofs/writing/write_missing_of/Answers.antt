use Rattle.std.specs.Prelude.{IsOk}
use Rattle.rescue_commands.specs.Steps.{IsBlockOfHead}
use Rattle.rescue_commands.proofs.Written.{have_all, have_one_more, have_up_to, not_ok}
use Rattle.rescue_commands.proofs.writing.write_missing_of.Goals as goal

pub loop-hour-preserved : goal.loop-hour-preserved
loop-hour-preserved g c =
    have_one_more g.S.Store.did g.S.Store.holds c.args.shelf.now.out.now (IsBlockOfHead c.args.head.now.content) c.args.store.now c.loop-hour.store c.write_hour.new.store
    c.args.hours.now c.loop-hour.hour-index c.hour-item.result c.loop-hour-test.true c.hour-item.is c.loop-hour.invariant c.in_ok-write_hour.ensures.done

pub returns-in_err-write_hour : goal.returns-in_err-write_hour
returns-in_err-write_hour g c =
    have_up_to g.S.Store.did g.S.Store.holds c.args.shelf.now.out.now (IsBlockOfHead c.args.head.now.content) c.args.store.now c.loop-hour.store c.write_hour.new.store
    c.args.hours.now c.loop-hour.hour-index c.hour-item.result (IsOk c.from_residual.result) c.loop-hour-test.true c.hour-item.is c.loop-hour.invariant
    (not_ok _ c.from_residual.result c.from_residual.ensures.1) c.in_err-write_hour.ensures.failed

pub returns : goal.returns
returns g c =
    have_all g.S.Store.did g.S.Store.holds c.args.shelf.now.out.now (IsBlockOfHead c.args.head.now.content) c.args.store.now c.loop-hour.store c.args.hours.now c.loop-hour.hour-index _
    c.loop-hour-test.false c.loop-hour.invariant
