use Rattle.std.specs.Prelude.{IsOk}
use Rattle.rescue_commands.specs.Steps.{IsBlockOfHead}
use Rattle.rescue_commands.proofs.Written.{have_none, not_ok}
use Rattle.rescue_commands.proofs.writing.write_new.Goals as goal

pub returns-in_err-named : goal.returns-in_err-named
returns-in_err-named g c = have_none g.S.Store.did g.S.Store.holds c.args.shelf.now.out.now (IsBlockOfHead c.args.head.now.content) c.args.store.now c.args.hours.now (IsOk c.from_residual.result) (not_ok _ c.from_residual.result c.from_residual.ensures.1)

pub returns-in_err-blocks : goal.returns-in_err-blocks
returns-in_err-blocks g c =
    have_none g.S.Store.did g.S.Store.holds c.args.shelf.now.out.now (IsBlockOfHead c.args.head.now.content) c.args.store.now c.args.hours.now (IsOk c.from_residual-in_err-blocks.result) (not_ok _ c.from_residual-in_err-blocks.result c.from_residual-in_err-blocks.ensures.1)
