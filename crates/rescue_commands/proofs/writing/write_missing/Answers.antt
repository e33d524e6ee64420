use Rattle.rescue_commands.specs.Steps.{IsBlockOfHead}
use Rattle.rescue_commands.proofs.Written.{has, has_left}
use Rattle.rescue_commands.proofs.writing.write_missing.Goals as goal

pub returns-clause-done : goal.returns-clause-done
returns-clause-done g c =
    has g.S.Store.did g.S.Store.holds c.args.shelf.now.out.now c.args.store.now c.write_cut.new.store c.in_ok-named.named.ulid c.in_ok-named.named.block (IsBlockOfHead c.args.head.now.content) c.args.hour c.in_ok-named.ensures.block
    c.write_cut.result c.write_cut.ensures.done

pub returns-clause-failed : goal.returns-clause-failed
returns-clause-failed g c =
    has_left g.S.Store.did g.S.Store.holds c.args.shelf.now.out.now c.args.store.now c.write_cut.new.store c.in_ok-named.named.ulid c.in_ok-named.named.block (IsBlockOfHead c.args.head.now.content) c.args.hour c.in_ok-named.ensures.block
    c.write_cut.result c.write_cut.ensures.failed
