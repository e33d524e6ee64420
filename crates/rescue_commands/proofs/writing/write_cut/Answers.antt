use Rattle.rescue_commands.proofs.Written.{left, wrote}
use Rattle.rescue_commands.proofs.writing.write_cut.Goals as goal

pub returns-clause-done : goal.returns-clause-done
returns-clause-done g c =
    wrote g.S.Store.did g.S.Store.holds c.args.shelf.now.out.now c.args.store.now c.put_block.new.store c.args.named.now.ulid c.args.named.now.block c.put_block.result c.put_block.ensures

pub returns-clause-failed : goal.returns-clause-failed
returns-clause-failed g c =
    left g.S.Store.did g.S.Store.holds c.args.shelf.now.out.now c.args.store.now c.put_block.new.store c.args.named.now.ulid c.args.named.now.block c.put_block.result c.put_block.ensures
